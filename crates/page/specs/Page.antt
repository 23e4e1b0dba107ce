-- A page of text, and what bytes put on it leave. Assumes nothing.
use Rattle.std.specs.Prelude.{ℕ, ◌+◌, ◌/◌, ◌%◌, ◌≡◌, true, false, List, [], ◌∷◌, set, ltb}
use Rattle.io.specs.Digits.{hex_digit_ascii, last_digits, IsDigitCount}

-- where the next byte goes: behind the others, or first where the page is full, which is then written
unfoldable pub place : ℕ → ℕ
place at = elim (ltb at 4096) [ true ↦ at | false ↦ 0 ]

-- a page and how many bytes it has, after more bytes
unfoldable pub typed : List ℕ → ℕ → List ℕ → List ℕ × ℕ
typed page at [] = (page, at)
typed page at (b ∷ bs) = typed (set page (place at) b) (place at + 1) bs

-- bytes in hex, two digits each
unfoldable pub pairs : List ℕ → List ℕ
pairs [] = []
pairs (b ∷ bs) = hex_digit_ascii (b / 16) ∷ (hex_digit_ascii (b % 16) ∷ pairs bs)

-- the same, with a dash for no bytes
unfoldable pub in_hex : List ℕ → List ℕ
in_hex [] = 45 ∷ []
in_hex (b ∷ bs) = pairs (b ∷ bs)

-- the fewest digits of a number, and no fewer than least, are typed
pub record Spelt (base least number : ℕ) (page : List ℕ) (at : ℕ) (page' : List ℕ) (end : ℕ) : Type 0 where
  pub count : ℕ
  pub fewest : IsDigitCount base least number count
  pub is : (page', end) ≡ typed page at (last_digits base count number)
