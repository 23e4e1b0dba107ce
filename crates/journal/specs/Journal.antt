-- 02, request 1: the slots of a journal, where the next record goes, and what writing it answers. Assumes nothing.
use Rattle.std.specs.Prelude.{ℕ, zero, suc, ◌+◌, ◌*◌, ◌/◌, ◌^◌, Bool, true, false, ◌&&◌, List, [], ◌∷◌, ◌++◌, length, take, drop, ltb, eqb}
use Rattle.slots.specs.Slots.{slot_length, is_input, record_bytes, Slot, blank, torn, bad, whole, judged, Written, written}

-- "fewer than 128 bytes at the end are no slot"
unfoldable pub slot_count : List ℕ → ℕ
slot_count j = length j / slot_length

-- the bytes of the slot of a place, and the journal with others there
unfoldable pub slot_at : List ℕ → ℕ → List ℕ
slot_at j p = take slot_length (drop (p * slot_length) j)

unfoldable pub with_slot : List ℕ → ℕ → List ℕ → List ℕ
with_slot j p s = take (p * slot_length) j ++ (s ++ drop (p * slot_length + slot_length) j)

-- what some slots from a place on hold, and what all of them do
unfoldable pub slots_from : List ℕ → ℕ → ℕ → List Slot
slots_from j p zero = []
slots_from j p (suc n) = judged (slot_at j p) ∷ slots_from j (suc p) n

unfoldable pub slots_of : List ℕ → List Slot
slots_of j = slots_from j 0 (slot_count j)

-- where the next record goes: its number and its place; or nowhere
pub data Room : Type 0 where
  free : (records place : ℕ) → Room
  nowhere : Room

-- "writing goes on in the first blank slot"; "sequence numbers count whole records from 0"; behind a slot that stops a replay
-- nothing is written, and a torn slot has no number
unfoldable pub room_from : ℕ → ℕ → List Slot → Room
room_from c p [] = nowhere
room_from c p (blank ∷ ss) = free c p
room_from c p (torn ∷ ss) = room_from c (suc p) ss
room_from c p (bad ∷ ss) = nowhere
room_from c p (whole q k bs ∷ ss) = elim (eqb q c) [ true ↦ room_from (suc c) (suc p) ss | false ↦ nowhere ]

unfoldable pub room_in : List ℕ → Room
room_in j = room_from 0 0 (slots_of j)

-- a place is told in 32 bits
unfoldable pub is_short : List ℕ → Bool
is_short j = ltb (slot_count j) (2 ^ 32)

-- the record of an input at the place for it, with the place as count; "with none left it is refused with 13 and nothing is written"
unfoldable pub placing : Room → List ℕ → ℕ → List ℕ → Written
placing nowhere j k bs = written (13 * 2 ^ 32) j
placing (free c p) j k bs = written p (with_slot j p (record_bytes c k bs))

unfoldable pub writing : List ℕ → ℕ → List ℕ → Written
writing j k bs = elim (is_short j && is_input k bs) [ false ↦ written (13 * 2 ^ 32) j | true ↦ placing (room_in j) j k bs ]
