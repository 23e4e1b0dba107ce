-- The lengths of a list, test by test. Assumes nothing.
use Prim.Native.Nat.{ℕ, ◌+◌, ◌-◌, ◌*◌, ◌/◌, ◌<◌, ◌≤◌}
use mathlib.Core.Path.{◌≡◌, sym, ap, ◌∙◌}
use mathlib.Core.Bool.{Bool, true, false, ◌&&◌, and-false}
use mathlib.Core.List.{List}
use native.Mathlib.Omega.{arith}
use lib.ListN.{length, take, drop, length-drop}
use lib.Seq.{take_all}
use lib.Dec.{leb, eqb}
use borrow.Author.Tests.{eqb-true, eq-eqb, ne_eqb, leb-true, le-leb, lt-leb}
use Rattle.laws.proofs.Truths.{and_3, both}
use Rattle.slots.specs.Slots.{slot_length}
use Rattle.journal.specs.Journal.{slot_count}
use Rattle.lent_list.specs.Lists.{head_length, most_slots, records_in, slots_in, has_length}

module _ (l : List ℕ) where
  pub slots_counted : (length l - head_length) / slot_length ≡ slots_in l
  unfolding slots_in slot_count
  slots_counted = ap (◌/ slot_length) (sym (length-drop head_length l))

  -- what stands behind the head
  pub behind_head : (n : ℕ) → n ≡ length l - head_length → take n (drop head_length l) ≡ records_in l
  behind_head n e = take_all n (drop head_length l) (simp length-drop (omega arith))

  abbrev whole : Bool
  whole = eqb (length l) (head_length + slot_length * slots_in l)

  pub lengths : has_length l ≡ true → (length l ≡ head_length + slot_length * slots_in l) × (1 ≤ slots_in l) × (slots_in l ≤ most_slots)
  unfolding has_length
  lengths e =
      let t = and_3 whole (leb 1 (slots_in l)) (leb (slots_in l) most_slots) e in
      (eqb-true (length l) (head_length + slot_length * slots_in l) t.0, leb-true 1 (slots_in l) t.1, leb-true (slots_in l) most_slots t.2)

  uneven : (length l ≡ head_length + slot_length * slots_in l → ⊥) → false ≡ has_length l
  unfolding has_length
  uneven h = sym (ap (λ (b : Bool). b && leb 1 (slots_in l) && leb (slots_in l) most_slots) (ne_eqb (length l) (head_length + slot_length * slots_in l) h))

  pub too_short : length l < head_length → false ≡ has_length l
  too_short h = uneven (λ e. omega (arith, e))

  -- with so many slots
  module _ {q : ℕ} (e : q ≡ slots_in l) where
    pub no_slots : (length l ≡ head_length + slot_length * q → ⊥) → false ≡ has_length l
    no_slots h = uneven (λ d. h (omega (arith, d)))

    pub slotless : q ≡ 0 → false ≡ has_length l
    unfolding has_length
    slotless z =
        sym
        (ap (λ (b : Bool). whole && b && leb (slots_in l) most_slots) (lt-leb 1 (slots_in l) (omega arith))
        ∙ ap (◌&& leb (slots_in l) most_slots) (and-false whole))

    pub most : length l ≡ head_length + slot_length * q → (q ≡ 0 → ⊥) → leb q most_slots ≡ has_length l
    unfolding has_length
    most d z =
        let a : (whole && leb 1 (slots_in l)) ≡ true =
        both (eq-eqb (length l) (head_length + slot_length * slots_in l) (omega (arith, d))) (le-leb 1 (slots_in l) (omega (arith, z))) in
        ap (λ (k : ℕ). leb k most_slots) e ∙ sym (ap (◌&& leb (slots_in l) most_slots) a)
