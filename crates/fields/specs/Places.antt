-- Numbers at places of a list of bytes, big-endian. Assumes nothing.
use Rattle.std.specs.Prelude.{ℕ, zero, suc, ◌+◌, ◌*◌, ◌/◌, ◌%◌, List, get_or, set}
use Rattle.std.proofs.Common.{Fits}
use Rattle.std.specs.Int.{w8}

-- each element is a byte
abbrev pub Bytes : List ℕ → Type 0
Bytes s = (i : ℕ) → Fits w8 (get_or s i 0)

-- the number of the w bytes of s from place at, the first byte the highest
unfoldable pub number : List ℕ → ℕ → ℕ → ℕ
number s at zero = 0
number s at (suc w) = number s at w * 256 + get_or s (at + w) 0

-- s with the w low bytes of v from place at, the highest byte first
unfoldable pub put : List ℕ → ℕ → ℕ → ℕ → List ℕ
put s at zero v = s
put s at (suc w) v = put (set s (at + w) (v % 256)) at w (v / 256)
