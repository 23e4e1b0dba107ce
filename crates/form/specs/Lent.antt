-- A lent store with the station that its header holds, and the test of a table that the code makes. Assumes nothing.
use Rattle.std.specs.Prelude.{ℕ, ◌+◌, ◌*◌, ◌-◌, ◌≤◌, ◌≡◌, Bool, ◌&&◌, List, length, leb, eqb}
use Rattle.fields.specs.Places.{number}
use Rattle.store.specs.Layout.{size_in, store_length, Table, count_of}
use Rattle.store.specs.Meaning.{Loads}
use Rattle.store.specs.declared.Station.{Station}

-- any bytes of the exact length
pub record Lent (b : List ℕ) (s : Station) : Type 0 where
  pub long : length b ≡ store_length (size_in b)
  pub holds : Loads s b

-- a table's count, in range
pub record Counts (t : Table) (b : List ℕ) (count : ℕ) : Type 0 where
  pub long : length b ≡ store_length (size_in b)
  pub is : count ≡ count_of t b
  pub room : count ≤ t.room (size_in b)

-- the count of a table's records is in range, and the unused ones are zero
unfoldable pub fits : List ℕ → ℕ → ℕ → ℕ → ℕ → Bool
fits b base size room count = leb count room && eqb (number b (base + size * count) (size * room - size * count)) 0
