-- The search of a table's records by their block, and the marks by which it goes. Assumes nothing.
use Rattle.std.specs.Prelude.{ℕ, zero, suc, ◌+◌, ◌-◌, ◌*◌, ◌/◌, ◌%◌, ◌^◌, Bool, true, false, ◌&&◌, List, eqb}
use Rattle.fields.specs.Places.{number}

-- "the first record that matches": its place, from place i among n; the place behind them, where none does
abbrev pub pick : Bool → ℕ → ℕ → ℕ
pick true i j = i
pick false i j = j

unfoldable pub seek : (ℕ → Bool) → ℕ → ℕ → ℕ
seek p i zero = i
seek p i (suc n) = pick (p i) i (seek p (suc i) n)

-- a record is of a block where its first eight bytes are the block's view and height, and the next 32 its name
abbrev pub has_block : List ℕ → ℕ → ℕ → ℕ → Bool
has_block b key name at = eqb key (number b at 8) && eqb name (number b (at + 8) 32)

-- of the records of one size from a base on: the first of the block, from one place up to another
abbrev pub first_of : List ℕ → ℕ → ℕ → ℕ → ℕ → ℕ → ℕ → ℕ
first_of b base size from end key name = seek (λ i. has_block b key name (base + size * i)) from (end - from)

-- ---- marks: eight bytes of a record, of its height and of its name's first word

abbrev pub mark_of : ℕ → ℕ → ℕ
mark_of key first = key % 256 ^ 4 * 256 ^ 4 + first / 256 ^ 4

abbrev pub has_mark : List ℕ → ℕ → ℕ → ℕ → ℕ → Bool
has_mark b base size mark i = eqb mark (number b (base + size * i + 4) 8)

-- the low bytes of v, the lowest first, behind the number r
unfoldable pub turn : ℕ → ℕ → ℕ → ℕ
turn zero v r = r
turn (suc w) v r = turn w (v / 256) (r * 256 + v % 256)
