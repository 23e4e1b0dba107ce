-- Records of numbers at places of a list of bytes: a format is the list of the fields' offsets and widths. Assumes nothing.
use Rattle.std.specs.Prelude.{ℕ, ◌+◌, ◌^◌, ◌<◌, List, [], ◌∷◌, T, leb}
use Rattle.fields.specs.Places.{number, put}

-- the (offset, width) of each field
abbrev pub Format : Type 0
Format = List (ℕ × ℕ)

-- the numbers of the record at a place
abbrev pub fields : List ℕ → ℕ → Format → List ℕ
fields s at [] = []
fields s at (f ∷ fs) = number s (at + f.0) f.1 ∷ fields s at fs

-- s with the record of these numbers at a place, the first field written first
abbrev pub puts : List ℕ → ℕ → Format → List ℕ → List ℕ
puts s at [] vs = s
puts s at (f ∷ fs) [] = s
puts s at (f ∷ fs) (v ∷ vs) = puts (put s (at + f.0) f.1 v) at fs vs

-- the fields lie in order and apart, from offset o up to offset e
abbrev pub Ordered : ℕ → Format → ℕ → Type 0
Ordered o [] e = T (leb o e)
Ordered o (f ∷ fs) e = T (leb o f.0) × Ordered (f.0 + f.1) fs e

-- each number fits its field's width
abbrev pub Fit : Format → List ℕ → Type 0
Fit [] [] = Unit {0}
Fit [] (v ∷ vs) = ⊥
Fit (f ∷ fs) [] = ⊥
Fit (f ∷ fs) (v ∷ vs) = (v < 256 ^ f.1) × Fit fs vs
