-- Ticks left as an integer: it falls by one with each tick, is at most zero where the due clock has come, and its eight bytes read back,
-- below zero too. Assumes nothing.
use mathlib.Core.Path.{◌≡◌, refl, ap, ◌∙◌}
use Prim.Native.Nat.{ℕ, zero, suc, ◌+◌, ◌-◌, ◌^◌, ◌≤◌, ◌<◌}
use native.Mathlib.Omega.{arith}
use mathlib.Core.Bool.{true, false}
use lib.Dec.{leb, ltb}
use lib.IntN.{pos, negsuc, pred_ℤ, sub_ℕ}
use lib.Signed.{le_z}
use borrow.Author.Tests.{lt-ltb, le-ltb, ltb-true, ltb-false, leb-true}
use Rattle.rules.specs.Lists.{be, unbe}
use Rattle.rules.specs.Display.{twos, signed}
use Rattle.laws.proofs.Tests.{by_bool}
use Rattle.laws.proofs.Bytes.{be_unbe}

signed_pos : (n : ℕ) → n < 2 ^ 63 → signed (twos (pos n)) ≡ pos n
unfolding twos signed
signed_pos n l = rw (lt-ltb n (2 ^ 63) l, signed)

signed_neg : (n : ℕ) → n < 2 ^ 63 → signed (twos (negsuc n)) ≡ negsuc n
unfolding twos signed
signed_neg n l = rw (le-ltb (2 ^ 64 - suc n) (2 ^ 63) (omega arith), signed) (ap negsuc (omega arith))

module _ (due clock : ℕ) where
  pub left_falls : sub_ℕ due (clock + 1) ≡ pred_ℤ (sub_ℕ due clock)
  left_falls =
      by_bool (ltb due clock)
      (λ q.
      let l = ltb-true due clock q in
      let e : clock + 1 - suc due ≡ suc (clock - suc due) = omega arith in
      rw (q, lt-ltb due (clock + 1) (omega arith), e))
      (λ q.
      let l = ltb-false due clock q in
      rw q (go (due - clock) refl l))
    where
      go : (k : ℕ) → due - clock ≡ k → clock ≤ due → sub_ℕ due (clock + 1) ≡ pred_ℤ (pos (due - clock))
      go zero e l =
          let z : clock + 1 - suc due ≡ 0 = omega arith in
          rw (e, lt-ltb due (clock + 1) (omega arith), z)
      go (suc k) e l =
          let z : due - (clock + 1) ≡ k = omega arith in
          rw (e, le-ltb due (clock + 1) (omega arith), z)

  -- "zero means due on the tick just given", "a number below zero means overdue"
  pub due_come : le_z (sub_ℕ due clock) (pos 0) ≡ true → due ≤ clock
  due_come e =
      by_bool (ltb due clock) (λ q. omega (arith, ltb-true due clock q))
      (λ q. let d : leb (due - clock) 0 ≡ true = rw q at e in omega (arith, leb-true (due - clock) 0 d))

  pub not_come : clock < due → le_z (sub_ℕ due clock) (pos 0) ≡ false
  not_come l = by_bool (le_z (sub_ℕ due clock) (pos 0)) (λ q. absurd (omega (arith, due_come q))) (λ q. q)

  -- ---- written and read back

  module _ (a : due < 2 ^ 63) (b : clock < 2 ^ 63) where
    twos_lt : twos (sub_ℕ due clock) < 256 ^ 8
    unfolding twos
    twos_lt = by_bool (ltb due clock) (λ q. let l = ltb-true due clock q in rw q (omega arith)) (λ q. rw q (omega arith))

    signed_twos : signed (twos (sub_ℕ due clock)) ≡ sub_ℕ due clock
    signed_twos =
        by_bool (ltb due clock) (λ q. rw q (signed_neg (clock - suc due) (omega arith))) (λ q. rw q (signed_pos (due - clock) (omega arith)))

    pub ticks_left_read_back : signed (be (unbe 8 (twos (sub_ℕ due clock)))) ≡ sub_ℕ due clock
    ticks_left_read_back = ap signed (be_unbe 8 (twos (sub_ℕ due clock)) twos_lt) ∙ signed_twos
