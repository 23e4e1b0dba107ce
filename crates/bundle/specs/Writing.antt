-- 02, request 8: "the writer makes flat envelopes". Assumes nothing.
use Rattle.std.specs.Prelude.{ℕ, zero, suc, ◌+◌, ◌*◌, ◌/◌, ◌%◌, ◌^◌, Bool, true, false, ◌&&◌, List, [], ◌∷◌, length, leb, eqb}
use Rattle.std.proofs.Math.Option.{Option, none, some, map}
use Rattle.rules.specs.Messages.{field}
use Rattle.fields.specs.Places.{number}
use Rattle.outgoing.specs.Wrote.{wrote}
use Rattle.slots.specs.Slots.{is_readable, Written, written}
use Rattle.items.specs.Items.{envelope_tag, bytes_of, flat}
use Rattle.envelope.specs.Places.{Place, part_at}
use Rattle.items.specs.Reading.{most_bytes}

-- the places that a list names, eight bytes each: so many from one on, and all of them
unfoldable pub place_in : List ℕ → ℕ → Place
unfolding number
place_in list k = record { offset = number list (k * 8) 4; size = number list (k * 8 + 4) 4 }

unfoldable pub places_from : List ℕ → ℕ → ℕ → List Place
unfolding place_in
places_from list k zero = []
places_from list k (suc n) = place_in list k ∷ places_from list (suc k) n

unfoldable pub places_in : List ℕ → List Place
unfolding places_from
places_in list = places_from list 0 (length list / 8)

-- whether a readable message stands at a place of some bytes
unfoldable pub is_message_at : List ℕ → Place → Bool
unfolding is_readable
is_message_at s p = leb (p.offset + p.size) (length s) && is_readable (part_at s p)

-- the messages at some places, in their order; none where "one isn't readable", or lies outside the bytes
unfoldable pub gathered : List ℕ → List Place → Option (List (List ℕ))
unfolding is_message_at
gathered s [] = some []
gathered s (p ∷ ps) = elim (is_message_at s p) [ true ↦ map (part_at s p ∷◌) (gathered s ps) | false ↦ none ]

-- the envelope of some messages
unfoldable pub flat_bytes : List (List ℕ) → List ℕ
unfolding field flat bytes_of
flat_bytes ms = field envelope_tag (bytes_of (flat ms))

-- what is written of some messages: none where they "would pass 8,192 bytes"
unfoldable pub bundle_of : Option (List (List ℕ)) → Option (List ℕ)
unfolding flat_bytes
bundle_of none = none
bundle_of (some ms) = elim (leb (length (flat_bytes ms)) most_bytes) [ true ↦ some (flat_bytes ms) | false ↦ none ]

unfoldable pub bundled : List ℕ → List ℕ → Option (List ℕ)
unfolding gathered places_in bundle_of
bundled s list = bundle_of (gathered s (places_in list))

-- 1 for a list that isn't of eights, or a buffer that is too short; "refused with 14 and nothing is written"; else the envelope, and its length
unfoldable pub writing : List ℕ → List ℕ → List ℕ → Written
unfolding bundled wrote written
writing s list out =
    elim (eqb (length list % 8) 0 && leb most_bytes (length out)) [
      | false ↦ written (1 * 2 ^ 32) out
      | true ↦ elim (bundled s list) [ none ↦ written (14 * 2 ^ 32) out | some e ↦ written (length e) (wrote out 0 e) ]
    ]
