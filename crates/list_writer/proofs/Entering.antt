-- What entering an answered input leaves, test by test. Assumes nothing.
use Prim.Native.Nat.{ℕ, ◌+◌, ◌-◌, ◌*◌, ◌^◌, ◌≤◌}
use mathlib.Core.Path.{◌≡◌, refl, sym, ap₂, ◌∙◌}
use mathlib.Core.Bool.{Bool, true, false}
use mathlib.Core.List.{List}
use lib.ListN.{length}
use lib.Dec.{leb}
use Rattle.fields.specs.Places.{number}
use Rattle.slots.specs.Slots.{is_kept}
use Rattle.outgoing.specs.Wrote.{wrote}
use Rattle.outgoing.proofs.Writing.{wrote_prefix}
use Rattle.lent_list.specs.Lists.{slots_in, count_in, is_full, added}
use Rattle.lent_list.specs.Plain.{Answer, refusal, entered, entering, Gives}

-- no slot is left, as the code counts
pub full_counted : (l : List ℕ) {q c : ℕ} → q ≡ slots_in l → c ≡ number l 4 4 → leb q c ≡ is_full l
unfolding is_full count_in
full_counted l e d = ap₂ leb e d

module _ (k : ℕ) (bs : List ℕ) (number : ℕ) (said l o : List ℕ) where
  abbrev by_tests : Bool → Bool → Answer
  by_tests z w = elim z [ false ↦ refusal number l o | true ↦ elim w [ true ↦ refusal 13 l o | false ↦ entered k bs number said l o ] ]

  tested : {z w : Bool} → is_kept number ≡ z → is_full l ≡ w → entering k bs number said l o ≡ by_tests z w
  unfolding entering
  tested p q = ap₂ by_tests p q

  module _ {y : Bool} (e : y ≡ is_kept number) where
    pub not_kept : {r : ℕ} → y ≡ false → r ≡ number * 2 ^ 32 → Gives (entering k bs number said l o) r l o
    not_kept u d = rw (tested (sym e ∙ u) refl) (unfold refusal in record { result = d; list = refl; out = refl })

    module _ (u : y ≡ true) {f : Bool} (g : f ≡ is_full l) where
      pub no_slot : {r : ℕ} → f ≡ true → r ≡ 13 * 2 ^ 32 → Gives (entering k bs number said l o) r l o
      no_slot v d = rw (tested (sym e ∙ u) (sym g ∙ v)) (unfold refusal in record { result = d; list = refl; out = refl })

      pub is_entered : {r : ℕ} {l' o' : List ℕ} → f ≡ false → r ≡ number * 2 ^ 32 + length said → l' ≡ added k bs l → o' ≡ wrote o 0 said → length said ≤ length o
          → Gives (entering k bs number said l o) r l' o'
      is_entered v d p q h =
          rw (tested (sym e ∙ u) (sym g ∙ v)) (unfold entered in record { result = d; list = p; out = q ∙ wrote_prefix o said h })
