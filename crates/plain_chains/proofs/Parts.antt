-- The first items of an array, as the searches and walks of the commit stage meet them. Assumes nothing.
use Prim.Native.Nat.{ℕ, zero, suc, ◌+◌, ◌<◌, ◌≤◌}
use mathlib.Core.Path.{◌≡◌, refl, ap, ◌∙◌}
use mathlib.Core.Bool.{Bool, true, false}
use mathlib.Core.List.{List, [], ◌∷◌}
use mathlib.Core.Option.{none, some}
use native.Mathlib.Omega.{arith}
use native.Mathlib.Nat.{le_of_suc-le-suc}
use lib.ListN.{length, get_or, set, drop}
use Rattle.rules.specs.Lists.{first}
use Rattle.plain_words.specs.Places.{firsts}
use Rattle.plain_words.proofs.Firsts.{firsts_next, firsts_done}

-- a search, upward
module _ {A B : Type 0} (f : A → B) (p : B → Bool) (xs : List A) (n : ℕ) where
  pub first_done : (i : ℕ) → n ≤ i → first p (drop i (firsts f xs n)) ≡ none
  unfolding first
  first_done i h = rw (firsts_done f xs n i h)

  pub first_here : (d : A) (i : ℕ) → n ≤ length xs → i < n → p (f (get_or xs i d)) ≡ true → first p (drop i (firsts f xs n)) ≡ some (f (get_or xs i d))
  unfolding first
  first_here d i l h t = ap (first p) (firsts_next f d xs n i l h) ∙ rw (t, first)

  pub first_next : (d : A) (i : ℕ) → n ≤ length xs → i < n → p (f (get_or xs i d)) ≡ false → first p (drop i (firsts f xs n)) ≡ first p (drop (i + 1) (firsts f xs n))
  unfolding first
  first_next d i l h t = ap (first p) (firsts_next f d xs n i l h) ∙ rw (t, first)

module _ {A B : Type 0} (f : A → B) where
  -- from a place on, where that place is written
  pub drop_set : (xs : List A) (n i : ℕ) (x : A) → n ≤ length xs → i < n → drop i (firsts f (set xs i x) n) ≡ f x ∷ drop (suc i) (firsts f xs n)
  unfolding firsts
  drop_set [] n i x l h = absurd (omega arith)
  drop_set (y ∷ ys) zero i x l h = absurd (omega arith)
  drop_set (y ∷ ys) (suc n) zero x l h = refl
  drop_set (y ∷ ys) (suc n) (suc i) x l h = drop_set ys n i x (le_of_suc-le-suc l) (le_of_suc-le-suc h)
