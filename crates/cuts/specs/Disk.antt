-- 02, request 1: a disk on which records are stored byte by byte, while the power is cut any number of times. Assumes nothing.
use Rattle.std.specs.Prelude.{ℕ, zero, suc, ◌≡◌, true, List, [], ◌∷◌, set, get_or, replicate, ◌≤◌}
use Rattle.slots.specs.Slots.{slot_length, is_input, record_bytes, blank}
use Rattle.journal.specs.Journal.{slot_at, with_slot, slot_count, slots_of, Room, free, nowhere, room_in}

-- a try to write an input: its kind, its bytes, and how many bytes of its record are stored when the power is cut; all of them if it isn't
pub record Try : Type 0 where
  pub kind : ℕ
  pub input : List ℕ
  pub stored : ℕ

-- an input, and a cut "after any byte"
pub record Proper (a : Try) : Type 0 where
  pub is_input : is_input a.kind a.input ≡ true
  pub cut : a.stored ≤ slot_length

-- "bytes are stored in order": the first bytes of a record, one after another, over what a slot holds
unfoldable pub storing : ℕ → List ℕ → List ℕ → List ℕ
storing zero r s = s
storing (suc n) r s = set (storing n r s) n (get_or r n 0)

-- "writing goes on in the first blank slot; with none left nothing is written"
unfoldable pub try_in : Room → Try → List ℕ → List ℕ
try_in nowhere a j = j
try_in (free c p) a j = with_slot j p (storing a.stored (record_bytes c a.kind a.input) (slot_at j p))

unfoldable pub trying : Try → List ℕ → List ℕ
trying a j = try_in (room_in j) a j

-- one try after another
unfoldable pub try_all : List Try → List ℕ → List ℕ
try_all [] j = j
try_all (a ∷ ts) j = try_all ts (trying a j)

-- "slots start zeroed"
abbrev pub Zeroed : List ℕ → Type 0
Zeroed j = slots_of j ≡ replicate (slot_count j) blank
