-- 02, request 8: reading an envelope and listing its messages, a pure function on bytes: the call whole. Assumes nothing.
use Rattle.std.specs.Prelude.{ℕ, ◌*◌, ◌^◌, Bool, true, false, List, [], length, leb}
use Rattle.std.proofs.Math.Option.{none, some}
use Rattle.outgoing.specs.Wrote.{wrote}
use Rattle.slots.specs.Slots.{Written, written}
use Rattle.items.specs.Items.{Items, messages_of}
use Rattle.items.specs.Reading.{envelope_in}
use Rattle.envelope.specs.Places.{places_of, list_bytes}

-- a list has room for every message that 8,192 bytes can hold
abbrev pub least_list : ℕ
least_list = 4096

-- the list of what stands behind the outermost tag and length
unfoldable pub list_of : Items → List ℕ
unfolding places_of list_bytes
list_of i = list_bytes (places_of 3 i)

-- whether some bytes are an envelope, and its list
unfoldable pub is_envelope : List ℕ → Bool
unfolding envelope_in
is_envelope s = elim (envelope_in s) [ none ↦ false | some i ↦ true ]

unfoldable pub list_in : List ℕ → List ℕ
unfolding envelope_in list_of
list_in s = elim (envelope_in s) [ none ↦ [] | some i ↦ list_of i ]

-- 1 for a list that is too short; "refused with number 14 and nothing is listed"; else the list, and the number of messages as count
unfoldable pub reading : List ℕ → List ℕ → Written
unfolding envelope_in list_of messages_of wrote written
reading s list =
    elim (leb least_list (length list)) [
      | false ↦ written (1 * 2 ^ 32) list
      | true ↦ elim (envelope_in s) [ none ↦ written (14 * 2 ^ 32) list | some i ↦ written (length (messages_of i)) (wrote list 0 (list_of i)) ]
    ]
