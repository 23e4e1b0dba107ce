-- What bars a call, test by test, and what is known of one that nothing bars. Assumes nothing.
use Prim.Native.Nat.{ℕ, ◌^◌, ◌<◌, ◌≤◌}
use mathlib.Core.Path.{◌≡◌, refl, sym, ap, ap₂, ◌∙◌}
use mathlib.Core.Bool.{Bool, true, false, ◌&&◌, and-false}
use mathlib.Core.List.{List}
use native.Mathlib.Omega.{arith}
use lib.ListN.{length}
use lib.Dec.{leb}
use borrow.Author.Tests.{leb-true, le-leb, lt-leb}
use Rattle.rules.specs.Limits.{small, least_out, least_out_small}
use Rattle.laws.proofs.Tests.{by_bool}
use Rattle.laws.proofs.Truths.{and_2}
use Rattle.lent_list.specs.Lists.{has_length, has_form}
use Rattle.plain_lists.specs.Meaning.{bar}

module _ (l o : List ℕ) where
  abbrev lengths_good : Bool
  lengths_good = has_length l && leb (least_out small) (length o)

  abbrev by_form : Bool → ℕ
  by_form z = elim z [ false ↦ 2 | true ↦ 0 ]

  abbrev by_lengths : Bool → ℕ
  by_lengths z = elim z [ false ↦ 1 | true ↦ by_form (has_form l) ]

  pub bar_short : lengths_good ≡ false → bar l o ≡ 1
  unfolding bar
  bar_short e = ap by_lengths e

  pub bar_form : {z : Bool} → lengths_good ≡ true → has_form l ≡ z → bar l o ≡ by_form z
  unfolding bar
  bar_form e f = ap by_lengths e ∙ ap by_form f

  pub bar_small : bar l o < 2 ^ 32
  bar_small =
      by_bool lengths_good (λ e. by_bool (has_form l) (λ f. omega (arith, bar_form e f)) (λ f. omega (arith, bar_form e f))) (λ e. omega (arith, bar_short e))

  pub not_barred : bar l o ≡ 0 → (lengths_good ≡ true) × (has_form l ≡ true)
  not_barred z =
      by_bool lengths_good (λ e. by_bool (has_form l) (λ f. (e, f)) (λ f. absurd (omega (arith, bar_form e f)))) (λ e. absurd (omega (arith, bar_short e)))

  pub open_list : {q : ℕ} → q ≡ bar l o → q ≡ 0 → (has_length l ≡ true) × (has_form l ≡ true)
  open_list e z = let t = not_barred (sym e ∙ z) in ((and_2 (has_length l) (leb (least_out small) (length o)) t.0).0, t.1)

  pub open_out : {q : ℕ} → q ≡ bar l o → q ≡ 0 → least_out_small ≤ length o
  unfolding least_out
  open_out e z = leb-true least_out_small (length o) (and_2 (has_length l) (leb (least_out small) (length o)) (not_barred (sym e ∙ z)).0).1

  pub out_short : length o < least_out_small → 1 ≡ bar l o
  unfolding bar least_out
  out_short h = sym (ap (λ (z : Bool). by_lengths (has_length l && z)) (lt-leb least_out_small (length o) h) ∙ ap by_lengths (and-false (has_length l)))

  module _ (h : least_out_small ≤ length o) {a : Bool} (e : a ≡ has_length l) where
    tested : {z : Bool} → a ≡ z → by_lengths z ≡ bar l o
    unfolding bar least_out
    tested {z} u =
        sym (ap₂ (λ (x y : Bool). by_lengths (x && y)) (sym e ∙ u) (le-leb least_out_small (length o) h) ∙ ap by_lengths (and_true z))
      where
        and_true : (z : Bool) → (z && true) ≡ z
        and_true true = refl
        and_true false = refl

    pub list_wrong : a ≡ false → 1 ≡ bar l o
    list_wrong u = tested u

    module _ (u : a ≡ true) {f : Bool} (g : f ≡ has_form l) where
      formed : {z : Bool} → f ≡ z → by_form z ≡ bar l o
      formed v = sym (ap by_form (sym g ∙ v)) ∙ tested u

      pub form_wrong : f ≡ false → 2 ≡ bar l o
      form_wrong v = formed v

      pub form_good : f ≡ true → 0 ≡ bar l o
      form_good v = formed v
