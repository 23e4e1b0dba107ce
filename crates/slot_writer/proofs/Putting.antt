-- Writing one record into a slot: the tests, and what each answer leaves. Assumes nothing.
use Prim.Native.Nat.{ℕ, ◌*◌, ◌^◌, ◌<◌, ◌≤◌}
use mathlib.Core.Path.{◌≡◌, sym, ap, ap₂, ◌∙◌}
use mathlib.Core.Bool.{Bool, true, false, ◌&&◌}
use mathlib.Core.List.{List}
use lib.ListN.{length}
use lib.Dec.{eqb, ltb}
use borrow.Author.Tests.{eq-eqb, ne_eqb, lt-ltb, le-ltb, ltb-true}
use Rattle.fields.specs.Places.{number}
use Rattle.laws.proofs.Truths.{and_3}
use Rattle.slots.specs.Slots.{slot_length, most_input, is_input, is_blank, record_bytes, Written, written, may_put, putting}
use Rattle.slots.proofs.Inputs.{input_fits}

module _ (s : List ℕ) (q k : ℕ) (bs : List ℕ) where
  -- an answer by its two tests
  abbrev answered : Bool → Bool → Written
  answered b c = elim b [ false ↦ written (1 * 2 ^ 32) s | true ↦ elim c [ false ↦ written (13 * 2 ^ 32) s | true ↦ written slot_length (record_bytes q k bs) ] ]

  module _ {r : Bool} (e : r ≡ eqb (number s 0 slot_length) 0) where
    may_test : may_put s q k bs ≡ (r && ltb q (2 ^ 32) && is_input k bs)
    unfolding may_put is_blank
    may_test = ap (λ (b : Bool). b && ltb q (2 ^ 32) && is_input k bs) (sym e)

    pub not_blank : r ≡ false → false ≡ may_put s q k bs
    not_blank t = sym (may_test ∙ ap (λ (b : Bool). b && ltb q (2 ^ 32) && is_input k bs) t)

    pub too_large : r ≡ true → 2 ^ 32 ≤ q → false ≡ may_put s q k bs
    too_large t h = sym (may_test ∙ ap₂ (λ (b c : Bool). b && c && is_input k bs) t (le-ltb q (2 ^ 32) h))

    pub may_be : {i : Bool} → r ≡ true → q < 2 ^ 32 → i ≡ is_input k bs → i ≡ may_put s q k bs
    may_be t h i = i ∙ sym (may_test ∙ ap₂ (λ (b c : Bool). b && c && is_input k bs) t (lt-ltb q (2 ^ 32) h))

  -- what a record that may be put keeps to
  pub may_fits : {r : Bool} → r ≡ may_put s q k bs → r ≡ true → (q < 2 ^ 32) × (k < 256) × (length bs ≤ most_input)
  unfolding may_put
  may_fits e t =
      let p = and_3 (is_blank s) (ltb q (2 ^ 32)) (is_input k bs) (sym e ∙ t) in
      let f = input_fits k bs p.2 in
      (ltb-true q (2 ^ 32) p.1, f.0, f.1)

  pub not_slot : {r : ℕ} → (length s ≡ slot_length → ⊥) → r ≡ 1 * 2 ^ 32 → written r s ≡ putting s q k bs
  unfolding putting
  not_slot d e = ap (λ (x : ℕ). written x s) e ∙ sym (ap (λ (b : Bool). answered b (may_put s q k bs)) (ne_eqb (length s) slot_length d))

  module _ {m : Bool} (n : length s ≡ slot_length) (e : m ≡ may_put s q k bs) where
    pub not_put : {r : ℕ} → m ≡ false → r ≡ 13 * 2 ^ 32 → written r s ≡ putting s q k bs
    unfolding putting
    not_put t a = ap (λ (x : ℕ). written x s) a ∙ sym (ap₂ answered (eq-eqb (length s) slot_length n) (sym e ∙ t))

    pub is_put : {s' : List ℕ} → m ≡ true → s' ≡ record_bytes q k bs → written slot_length s' ≡ putting s q k bs
    unfolding putting
    is_put t a = ap (written slot_length) a ∙ sym (ap₂ answered (eq-eqb (length s) slot_length n) (sym e ∙ t))
