-- An offered name, by its length. Assumes nothing.
use Prim.Native.Nat.{ℕ, ◌*◌, ◌^◌}
use mathlib.Core.Path.{◌≡◌, refl, ap}
use mathlib.Core.Bool.{Bool, true, false}
use mathlib.Core.List.{List}
use lib.ListN.{length}
use lib.Dec.{eqb}
use borrow.Author.Tests.{eq-eqb, ne_eqb}
use Rattle.lent_list.specs.Lists.{offer}
use Rattle.lent_list.specs.Plain.{Answer, refusal, plainly, plain_offer, Gives}

module _ (name l o : List ℕ) where
  abbrev by_name : Bool → Answer
  by_name z = elim z [ false ↦ refusal 1 l o | true ↦ plainly (offer name) l o ]

  named : {z : Bool} → eqb (length name) 32 ≡ z → plain_offer name l o ≡ by_name z
  unfolding plain_offer
  named e = ap by_name e

  pub name_short : {r : ℕ} → (length name ≡ 32 → ⊥) → r ≡ 1 * 2 ^ 32 → Gives (plain_offer name l o) r l o
  name_short n d = rw (named (ne_eqb (length name) 32 n)) (unfold refusal in record { result = d; list = refl; out = refl })

  pub name_good : {r : ℕ} {l' o' : List ℕ} → length name ≡ 32 → Gives (plainly (offer name) l o) r l' o' → Gives (plain_offer name l o) r l' o'
  name_good n h = rw (named (eq-eqb (length name) 32 n)) h
