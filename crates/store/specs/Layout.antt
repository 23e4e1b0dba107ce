-- Where each number of a store is: docs/STORE.md has the same list. Offsets and widths in bytes. Assumes nothing.
use Rattle.std.specs.Prelude.{ℕ, ◌+◌, ◌*◌, ◌-◌, true, false, List, [], ◌∷◌, length, eqb}
use Rattle.rules.specs.Limits.{Size, small, large, last_view_small, last_view, most_statements_small, most_statements, most_tallies_small, most_tallies}
use Rattle.fields.specs.Places.{number}
use Rattle.fields.specs.Records.{Format}

-- phase, n, D, own; view, entry, clock; the lock's view, height, name, mask; how many statements, tallies, logged names
abbrev pub header_format : Format
header_format =
    (0, 4) ∷ (4, 1) ∷ (5, 2) ∷ (7, 1) ∷ (8, 4) ∷ (12, 4) ∷ (16, 4) ∷ (20, 4) ∷ (24, 4) ∷ (28, 32) ∷ (60, 2) ∷ (62, 2) ∷ (64, 2) ∷ (66, 2) ∷ []

-- view, height, name, kind, author, mask, link, vote
abbrev pub statement_format : Format
statement_format = (0, 4) ∷ (4, 4) ∷ (8, 32) ∷ (40, 1) ∷ (41, 1) ∷ (42, 2) ∷ (44, 32) ∷ (76, 4) ∷ []

-- view, height, name, mask
abbrev pub certificate_format : Format
certificate_format = (0, 4) ∷ (4, 4) ∷ (8, 32) ∷ (40, 2) ∷ []

-- a certificate's numbers, then who opened the tally, then when it first had a quorum
abbrev pub tally_format : Format
tally_format = (0, 4) ∷ (4, 4) ∷ (8, 32) ∷ (40, 2) ∷ (42, 1) ∷ (43, 4) ∷ []

abbrev pub mask_format : Format
mask_format = (0, 2) ∷ []

abbrev pub name_format : Format
name_format = (0, 32) ∷ []

-- a record ends where its last field does
abbrev pub size_of : Format → ℕ
size_of [] = 0
size_of (f ∷ []) = f.0 + f.1
size_of (f ∷ g ∷ fs) = size_of (g ∷ fs)

abbrev pub header_size : ℕ
header_size = size_of header_format

abbrev pub statement_size : ℕ
statement_size = size_of statement_format

abbrev pub certificate_size : ℕ
certificate_size = size_of certificate_format

abbrev pub tally_size : ℕ
tally_size = size_of tally_format

-- a table: where its first record is, a record's size, how many it has room for, and where their count stands
pub record Table : Type 0 where
  pub base : Size → ℕ
  pub size : ℕ
  pub room : Size → ℕ
  pub count_at : ℕ

-- where a table's records end, and the next part begins
abbrev pub end_of : Table → Size → ℕ
end_of t z = t.base z + t.size * t.room z

abbrev pub statement_table : Table
statement_table = record { base = λ z. header_size; size = statement_size; room = most_statements; count_at = 62 }

abbrev pub tally_table : Table
tally_table = record { base = end_of statement_table; size = tally_size; room = most_tallies; count_at = 64 }

-- the blame mask of view 1 is the first of them
abbrev pub blame_base : Size → ℕ
blame_base z = end_of tally_table z

-- the log has room for every stored statement
abbrev pub log_table : Table
log_table = record { base = λ z. blame_base z + size_of mask_format * last_view z; size = size_of name_format; room = most_statements; count_at = 66 }

abbrev pub store_length : Size → ℕ
store_length z = end_of log_table z

-- the same for the small limits, as a number
abbrev pub small_length : ℕ
small_length = header_size + (statement_size + size_of name_format) * most_statements_small + tally_size * most_tallies_small + size_of mask_format * last_view_small

-- the limits that a store is made for: its length says which
unfoldable pub size_in : List ℕ → Size
unfolding last_view most_statements most_tallies
size_in b = elim (eqb (length b) (store_length large)) [ true ↦ large | false ↦ small ]

-- the records in use, the place of record i, and the number of the bytes that are not in use
abbrev pub count_of : Table → List ℕ → ℕ
count_of t b = number b t.count_at 2

abbrev pub place_of : Table → Size → ℕ → ℕ
place_of t z i = t.base z + t.size * i

abbrev pub unused : Size → Table → List ℕ → ℕ
unused z t b = number b (t.base z + t.size * count_of t b) (t.size * t.room z - t.size * count_of t b)
