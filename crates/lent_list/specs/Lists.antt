-- 02, request 13: the list that a host lends to the plain engine, which "keeps all inputs in a list": its form, the inputs that it
-- holds, a fresh one, and the list with one input more. Assumes nothing.
use Rattle.std.specs.Prelude.{ℕ, suc, ◌+◌, ◌-◌, ◌*◌, ◌^◌, Bool, true, false, ◌&&◌, List, [], ◌∷◌, ◌++◌, length, take, drop, replicate, leb, ltb, eqb}
use Rattle.rules.specs.Limits.{small}
use Rattle.rules.specs.Lists.{unbe}
use Rattle.rules.specs.Sizes.{Settings, good_settings}
use Rattle.fields.specs.Places.{number, put}
use Rattle.slots.specs.Slots.{slot_length, record_bytes, Slot, blank, torn, bad, whole}
use Rattle.journal.specs.Journal.{slot_count, with_slot, slots_from, slots_of}

-- what a host hands over: a tick, an offered name, a message; a name and a message are any bytes
pub data Input : Type 0 where
  tick : Input
  offer : (name : List ℕ) → Input
  message : (bytes : List ℕ) → Input

-- a record's kind and its input's bytes: "1 tick, 2 offer, 3 message, then nothing, the name or the message"
unfoldable pub kind_of : Input → ℕ
kind_of tick = 1
kind_of (offer name) = 2
kind_of (message bs) = 3

unfoldable pub bytes_of : Input → List ℕ
bytes_of tick = []
bytes_of (offer name) = name
bytes_of (message bs) = bs

unfoldable pub input_of : ℕ → List ℕ → Input
input_of k bs = elim (eqb k 1) [ true ↦ tick | false ↦ elim (eqb k 2) [ true ↦ offer bs | false ↦ message bs ] ]

-- ---- the form

-- a head, and then slots: at least one, and at most so many
abbrev pub head_length : ℕ
head_length = 16

abbrev pub most_slots : ℕ
most_slots = 2 ^ 20

-- the part behind the head: "records of 128 bytes as the journal's slots hold them"
abbrev pub records_in : List ℕ → List ℕ
records_in l = drop head_length l

unfoldable pub slots_in : List ℕ → ℕ
unfolding slot_count
slots_in l = slot_count (records_in l)

-- a list that is of none of these lengths is refused with 1
unfoldable pub has_length : List ℕ → Bool
unfolding slots_in
has_length l = eqb (length l) (head_length + slot_length * slots_in l) && leb 1 (slots_in l) && leb (slots_in l) most_slots

-- the head: n in 1 byte, D in 2, the own number in 1, the number of records in 4, zeros in 8. The limits are the small ones.
unfoldable pub settings_in : List ℕ → Settings
unfolding number
settings_in l = record { n = number l 0 1; D = number l 1 2; own = number l 3 1; size = small }

unfoldable pub count_in : List ℕ → ℕ
unfolding number
count_in l = number l 4 4

-- what the slot of a place holds in a list of c records: "sequence numbers from 0", and all behind the last record is zero
unfoldable pub is_placed : ℕ → ℕ → Slot → Bool
is_placed c p blank = leb c p
is_placed c p torn = false
is_placed c p bad = false
is_placed c p (whole q k bs) = ltb p c && eqb q p

unfoldable pub are_placed : ℕ → ℕ → List Slot → Bool
unfolding is_placed
are_placed c p [] = leb c p
are_placed c p (s ∷ ss) = is_placed c p s && are_placed c (suc p) ss

-- a list that isn't of this form is refused with 2
unfoldable pub has_form : List ℕ → Bool
unfolding settings_in good_settings number are_placed count_in slots_of
has_form l = good_settings (settings_in l) && eqb (number l 8 8) 0 && are_placed (count_in l) 0 (slots_of (records_in l))

-- the inputs that slots hold, in their order
unfoldable pub inputs_in : List Slot → List Input
unfolding input_of
inputs_in [] = []
inputs_in (blank ∷ ss) = inputs_in ss
inputs_in (torn ∷ ss) = inputs_in ss
inputs_in (bad ∷ ss) = inputs_in ss
inputs_in (whole q k bs ∷ ss) = input_of k bs ∷ inputs_in ss

unfoldable pub inputs_of : List ℕ → List Input
unfolding inputs_in slots_of
inputs_of l = inputs_in (slots_of (records_in l))

-- those from a place on
unfoldable pub inputs_after : List ℕ → ℕ → List Input
unfolding inputs_in slots_from slots_in
inputs_after l p = inputs_in (slots_from (records_in l) p (slots_in l - p))

-- ---- a fresh list, and one input more

-- the settings, and zeros
unfoldable pub fresh_list : Settings → ℕ → List ℕ
unfolding unbe
fresh_list g n = unbe 1 g.n ++ (unbe 2 g.D ++ (unbe 1 g.own ++ replicate (n - 4) 0))

-- no slot is left
unfoldable pub is_full : List ℕ → Bool
unfolding slots_in count_in
is_full l = leb (slots_in l) (count_in l)

-- the record behind the last one, and the number of records in the head
unfoldable pub added : ℕ → List ℕ → List ℕ → List ℕ
unfolding put count_in with_slot record_bytes
added k bs l = put (take head_length l) 4 4 (count_in l + 1) ++ with_slot (records_in l) (count_in l) (record_bytes (count_in l) k bs)
