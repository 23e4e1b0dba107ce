-- The place of the first record that matches. Assumes nothing.
use Rattle.std.specs.Prelude.{ℕ, suc, Bool, true, false, List, [], ◌∷◌, Option, Some, None}
use Rattle.rules.specs.Words.{Certificate, Tally, of_block}

-- "the first record that matches decides the search": its place, from place i on
abbrev pub pick : Bool → Option ℕ → Option ℕ → Option ℕ
pick true a b = a
pick false a b = b

unfoldable pub first_from : {A : Type 0} → (A → Bool) → ℕ → List A → Option ℕ
first_from p i [] = None
first_from p i (x ∷ xs) = pick (p x) (Some i) (first_from p (suc i) xs)

-- the place of a block's tally
abbrev pub block_at : Certificate → List Tally → Option ℕ
block_at t us = first_from (of_block t) 0 us
