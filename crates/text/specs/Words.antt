-- The words of a line, and what a word says: a number, bytes in hex, a name, a mask. Assumes nothing.
use Rattle.std.specs.Prelude.{ℕ, ◌+◌, ◌-◌, ◌*◌, ◌%◌, Bool, true, false, not, ◌&&◌, ◌||◌, List, [], ◌∷◌, length, leb, ltb, eqb}
use Prim.Native.Char.{code}
use Prim.Native.String.{String, [] as []ᵗ, ◌∷◌ as ◌∷ᵗ◌}
use Rattle.std.proofs.Math.Option.{Option, none, some}
use Rattle.rules.specs.Lists.{within, all}
use Rattle.rules.specs.Script.{same_list}
use Rattle.rules.specs.Sizes.{only, joined}

-- the bytes of a text
unfoldable pub bytes : String → List ℕ
bytes []ᵗ = []
bytes (c ∷ᵗ s) = code c ∷ bytes s

-- ---- words

-- "spaces, tabs and carriage returns"
unfoldable pub is_space : ℕ → Bool
is_space b = eqb b 32 || eqb b 9 || eqb b 13

-- the bytes of a word, which end at a space or at a comment; the bytes up to a '+'
unfoldable pub in_word : ℕ → Bool
unfolding is_space
in_word b = not (is_space b || eqb b 35)

unfoldable pub in_station : ℕ → Bool
in_station b = not (eqb b 43)

-- the run of bytes in front, and what stands behind it
module _ (p : ℕ → Bool) where
  unfoldable pub front : List ℕ → List ℕ
  front [] = []
  front (b ∷ bs) = elim (p b) [ true ↦ b ∷ front bs | false ↦ [] ]

  unfoldable pub behind : List ℕ → List ℕ
  behind [] = []
  behind (b ∷ bs) = elim (p b) [ true ↦ behind bs | false ↦ b ∷ bs ]

-- the first word of a text, empty if there is none, and what stands behind it
unfoldable pub word : List ℕ → List ℕ
unfolding front behind in_word is_space
word s = front in_word (behind is_space s)

unfoldable pub rest : List ℕ → List ℕ
unfolding behind in_word is_space
rest s = behind in_word (behind is_space s)

unfoldable pub no_word : List ℕ → Bool
unfolding word
no_word s = eqb (length (word s)) 0

-- ---- digits

unfoldable pub is_decimal : ℕ → Bool
unfolding within
is_decimal b = within 48 57 b

unfoldable pub is_hex : ℕ → Bool
unfolding is_decimal within
is_hex b = is_decimal b || within 97 102 b || within 65 70 b

-- what a digit says, "of either case"
unfoldable pub digit : ℕ → ℕ
unfolding is_decimal within
digit b =
    elim (is_decimal b) [
      | true ↦ b - 48
      | false ↦ elim (within 97 102 b) [ true ↦ b - 97 + 10 | false ↦ elim (within 65 70 b) [ true ↦ b - 65 + 10 | false ↦ 0 ] ]
    ]

-- the number of some digits behind those that say n
unfoldable pub value : ℕ → ℕ → List ℕ → ℕ
unfolding digit
value base n [] = n
value base n (b ∷ bs) = value base (n * base + digit b) bs

-- ---- what a word says

-- "a number is decimal digits", and no larger than its field can hold
unfoldable pub is_number : ℕ → List ℕ → Bool
unfolding all is_decimal value
is_number most w = ltb 0 (length w) && all is_decimal w && leb (value 10 0 w) most

unfoldable pub decimal : ℕ → List ℕ → Option ℕ
unfolding is_number value
decimal most w = elim (is_number most w) [ true ↦ some (value 10 0 w) | false ↦ none ]

unfoldable pub is_dash : List ℕ → Bool
unfolding same_list bytes
is_dash w = same_list w (bytes "-")

-- "HEX is pairs of hex digits, of either case; `-` is no bytes at all"
unfoldable pub pairs : List ℕ → List ℕ
unfolding digit
pairs [] = []
pairs (a ∷ []) = []
pairs (a ∷ b ∷ bs) = (digit a * 16 + digit b) ∷ pairs bs

unfoldable pub is_bytes : List ℕ → Bool
unfolding is_dash all is_hex
is_bytes w = is_dash w || eqb (length w % 2) 0 && all is_hex w

-- "1 to 64 hex digits, with zeros in front up to 32 bytes": the number of the name
unfoldable pub is_name : List ℕ → Bool
unfolding within all is_hex
is_name w = within 1 64 (length w) && all is_hex w

unfoldable pub name : List ℕ → Option ℕ
unfolding is_name value
name w = elim (is_name w) [ true ↦ some (value 16 0 w) | false ↦ none ]

-- the parts of a word between its '+'
unfoldable pub begin : ℕ → List (List ℕ) → List (List ℕ)
begin b [] = (b ∷ []) ∷ []
begin b (w ∷ ws) = (b ∷ w) ∷ ws

unfoldable pub split : List ℕ → List (List ℕ)
unfolding begin
split [] = [] ∷ []
split (b ∷ bs) = elim (eqb b 43) [ true ↦ [] ∷ split bs | false ↦ begin b (split bs) ]

-- "station numbers from 0 to 15 joined by `+`, as `0+2`; `-` is nobody"
unfoldable pub stations : ℕ → List (List ℕ) → Option ℕ
unfolding decimal joined only
stations m [] = some m
stations m (w ∷ ws) = elim (decimal 15 w) [ none ↦ none | some i ↦ stations (joined m (only i)) ws ]

unfoldable pub mask : List ℕ → Option ℕ
unfolding is_dash stations split
mask w = elim (is_dash w) [ true ↦ some 0 | false ↦ stations 0 (split w) ]
