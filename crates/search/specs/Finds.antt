-- What a search of a table answers, by the places of its records. Assumes nothing.
use Rattle.std.specs.Prelude.{Some, None, ℕ, ◌<◌, ◌≡◌, Option as Maybe}
use Rattle.std.proofs.Math.Option.{Option, none, some}

-- the records at what was found
module _ {A : Type 0} (f : ℕ → A) where
  abbrev pub found_in : Maybe ℕ → Option A
  found_in (Some i) = some (f i)
  found_in None = none

  abbrev pub pair_in : Maybe (ℕ × ℕ) → Option (A × A)
  pair_in (Some ij) = some (f ij.0, f ij.1)
  pair_in None = none

-- and that its places are in use
module _ (n : ℕ) where
  abbrev pub Inside : Maybe ℕ → Type 0
  Inside (Some i) = i < n
  Inside None = Unit {0}

  abbrev pub InsideBoth : Maybe (ℕ × ℕ) → Type 0
  InsideBoth (Some ij) = (ij.0 < n) × (ij.1 < n)
  InsideBoth None = Unit {0}

-- of a table of n records, what was found is what a definition gives
pub record Finds {A : Type 0} (f : ℕ → A) (n : ℕ) (o : Option A) (r : Maybe ℕ) : Type 0 where
  pub is : found_in f r ≡ o
  pub inside : Inside n r

pub record FindsBoth {A : Type 0} (f : ℕ → A) (n : ℕ) (o : Option (A × A)) (r : Maybe (ℕ × ℕ)) : Type 0 where
  pub is : pair_in f r ≡ o
  pub inside : InsideBoth n r
