-- The first items of an array, each by its meaning, and the place of the first that matches. Assumes nothing.
use Rattle.std.specs.Prelude.{ℕ, suc, ◌≤◌, ◌≡◌, Bool, true, false, List, [], ◌∷◌, map, length, take}

-- the list that an array and a count stand for
unfoldable pub firsts : {A B : Type 0} → (A → B) → List A → ℕ → List B
firsts f xs n = map f (take n xs)

-- an array of so many items, of which no more are counted
pub record Within {A : Type 0} (room : ℕ) (xs : List A) (n : ℕ) : Type 0 where
  pub long : length xs ≡ room
  pub most : n ≤ room

-- where the first that matches stands, or the end of the list
unfoldable pub place : {A : Type 0} → (A → Bool) → List A → ℕ
place p [] = 0
place p (x ∷ xs) = elim (p x) [ true ↦ 0 | false ↦ suc (place p xs) ]
