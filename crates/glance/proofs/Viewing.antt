-- Statements of other views, which a tick passes over. Assumes nothing.
use Prim.Native.Nat.{ℕ, ◌+◌, ◌-◌, ◌*◌, ◌/◌, ◌%◌, ◌<◌, ◌≤◌}
use mathlib.Core.Path.{◌≡◌, refl, sym, ap, ◌∙◌, subst}
use mathlib.Core.Bool.{Bool, true, false, not}
use mathlib.Core.List.{List}
use native.Mathlib.Omega.{arith}
use native.Mathlib.Decide.{dec_lt}
use lib.Dec.{eqb}
use borrow.Author.Tests.{eqb-true, eq-eqb, ne_eqb, not-true, not-false}
use Rattle.laws.proofs.Tests.{by_bool, no_bool}
use Rattle.store.specs.Decode.{statement_at}
use Rattle.glance.specs.Looks.{IsView, turned, OthersFrom, FourOthers}

-- the bytes of a view, turned
turned_bytes : (w x y : ℕ) → w ≡ x * 256 + y → x < 256 → y < 256 → x + 256 * y ≡ turned w
turned_bytes w x y e l m =
    let high : w / 256 ≡ x = omega arith in
    let first : w / 256 % 256 ≡ x = omega arith in
    let second : w % 256 ≡ y = omega arith in
    omega arith

-- only they come to that
bytes_turned : (w x y : ℕ) → w < 65_536 → x < 256 → x + 256 * y ≡ turned w → w ≡ x * 256 + y
bytes_turned w x y u l e =
    let high : w / 256 % 256 ≡ w / 256 = omega arith in
    let mine : (x + 256 * y) % 256 ≡ x = omega arith in
    let its : turned w % 256 ≡ w / 256 = omega (arith, high) in
    let first : x ≡ w / 256 = sym mine ∙ ap (◌% 256) e ∙ its in
    omega (arith, first, high)

-- views differ where their lower halves do, with their bytes turned
pub lower_half : (v w : ℕ) (high x y : ℕ) → v ≡ high * 65_536 + (x * 256 + y) → x < 256 → y < 256 → IsView v → IsView w → eqb (x + 256 * y) (turned w) ≡ eqb v w
lower_half v w high x y e l m p q =
    by_bool (eqb v w) (λ t. eq-eqb (x + 256 * y) (turned w) (let z = eqb-true v w t in turned_bytes w x y (omega arith) l m) ∙ sym t)
    (λ t. ne_eqb (x + 256 * y) (turned w) (λ z. no_bool (sym (eq-eqb v w (let back = bytes_turned w x y (omega arith) l z in omega arith)) ∙ t)) ∙ sym t)

pub not_this : {v w : ℕ} {r : Bool} → r ≡ eqb v w → r ≡ false → v ≡ w → ⊥
not_this {v} {w} e f z = no_bool (sym (eq-eqb v w z) ∙ sym e ∙ f)

pub of_view_lem : {v w : ℕ} {r : Bool} → r ≡ eqb v w → not r ≡ false → v ≡ w
of_view_lem {v} {w} {r} e f = eqb-true v w (sym e ∙ not-false r f)

pub of_other : {v w : ℕ} {r : Bool} → r ≡ eqb v w → not r ≡ true → v ≡ w → ⊥
of_other {v} {w} {r} e f = not_this e (not-true r f)

-- ---- four at a time
module _ (b : List ℕ) (view : ℕ) where
  more_others : (i k to : ℕ) → k ≤ i + 1 → OthersFrom b view k to → ((statement_at b i).view ≡ view → ⊥) → OthersFrom b view i to
  more_others i k to h o n j l m e =
      elim (dec_lt i j) [
        | yes u ↦ o j (omega arith) m e
        | no u ↦ n (let z : j ≡ i = omega arith in subst (λ (p : ℕ). (statement_at b p).view ≡ view) z e)
      ]

  pub four_others : (i : ℕ) (r : Bool) → r ≡ eqb (statement_at b i).view view → ((statement_at b (i + 1)).view ≡ view → ⊥)
      → ((statement_at b (i + 2)).view ≡ view → ⊥) → ((statement_at b (i + 3)).view ≡ view → ⊥) → FourOthers b view i (not r)
  four_others i true e p q s = tt
  four_others i false e p q s =
      let to = i + 4 in
      more_others i (i + 1) to (omega arith)
      (more_others (i + 1) (i + 2) to (omega arith) (more_others (i + 2) (i + 3) to (omega arith) (more_others (i + 3) to to (omega arith) (λ j l m. absurd (omega arith)) s) q) p)
      (not_this e refl)

  pub others_on : (i from : ℕ) (r : Bool) → 4 ≤ i → FourOthers b view (i - 4) r → not r ≡ false → OthersFrom b view i from → OthersFrom b view (i - 4) from
  others_on i from r h f n o j l m =
      elim (dec_lt j i) [
        | yes u ↦ subst (FourOthers b view (i - 4)) (not-false r n) f j l (omega arith)
        | no u ↦ o j (omega arith) m
      ]
