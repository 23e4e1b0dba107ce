-- What the code's answer on the place for a record means. Assumes nothing.
use Rattle.std.specs.Prelude.{◌<◌, ◌≤◌, List, ◌≡◌, ℕ, Option, Some, None}
use Rattle.journal.specs.Journal as journal
use Rattle.journal.specs.Journal.{slot_count, room_in}
use Rattle.journal.specs.declared.Room.{Room}

unfoldable pub room_of : Option Room → journal.Room
room_of (Some r) = journal.free r.records r.place
room_of None = journal.nowhere

-- the place is that of a slot, with no more records before it than slots
abbrev pub Within : List ℕ → Option Room → Type 0
Within j (Some r) = (r.records ≤ r.place) × (r.place < slot_count j)
Within j None = Unit

pub record Found (j : List ℕ) (r : Option Room) : Type 0 where
  pub is : room_of r ≡ room_in j
  pub within : Within j r
