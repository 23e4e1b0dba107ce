-- Plain tools that 01 takes for granted: a number's bytes, two truths alike, searches in lists, lists in order. Assumes nothing.
use Rattle.std.specs.Prelude.{ℕ, zero, suc, ◌+◌, ◌*◌, ◌/◌, ◌%◌, ◌^◌, Bool, true, false, not, ◌&&◌, length, leb}
use mathlib.Core.List.{List, [], ◌∷◌}
use Rattle.std.proofs.Math.Option.{Option, none, some}

-- "numbers big-endian": the number of some bytes, and a number's bytes
unfoldable pub be : List ℕ → ℕ
be [] = 0
be (b ∷ bs) = b * 256 ^ length bs + be bs

unfoldable pub unbe : ℕ → ℕ → List ℕ
unbe zero v = []
unbe (suc w) v = v / 256 ^ w ∷ unbe w (v % 256 ^ w)

-- "exactly when"
unfoldable pub iff : Bool → Bool → Bool
iff true b = b
iff false b = not b

-- from the least to the most, both allowed
unfoldable pub within : ℕ → ℕ → ℕ → Bool
within least most x = leb least x && leb x most

module _ {A : Type 0} (p : A → Bool) where
  -- "the first record that matches decides the search"
  unfoldable pub first : List A → Option A
  first [] = none
  first (x ∷ xs) = elim (p x) [ true ↦ some x | false ↦ first xs ]

  unfoldable pub any : List A → Bool
  any [] = false
  any (x ∷ xs) = elim (p x) [ true ↦ true | false ↦ any xs ]

  unfoldable pub all : List A → Bool
  all [] = true
  all (x ∷ xs) = p x && all xs

  unfoldable pub keep : List A → List A
  keep [] = []
  keep (x ∷ xs) = elim (p x) [ true ↦ x ∷ keep xs | false ↦ keep xs ]

  -- the first that matches, changed
  unfoldable pub alter : (A → A) → List A → List A
  alter f [] = []
  alter f (x ∷ xs) = elim (p x) [ true ↦ f x ∷ xs | false ↦ x ∷ alter f xs ]

-- no two are the same
unfoldable pub distinct : {A : Type 0} → (A → A → Bool) → List A → Bool
unfolding any
distinct same [] = true
distinct same (x ∷ xs) = not (any (same x) xs) && distinct same xs

-- in ascending order of a key, then by place
module _ {A : Type 0} (key : A → ℕ) where
  unfoldable pub insert : A → List A → List A
  insert x [] = x ∷ []
  insert x (y ∷ ys) = elim (leb (key x) (key y)) [ true ↦ x ∷ y ∷ ys | false ↦ y ∷ insert x ys ]

  unfoldable pub sorted : List A → List A
  unfolding insert
  sorted [] = []
  sorted (x ∷ xs) = insert x (sorted xs)
