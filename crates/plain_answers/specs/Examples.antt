-- A list of three slots, evaluated: fresh, ticked until it is full, and with a wrong number in a record. Assumes nothing.
use Rattle.std.specs.Prelude.{ℕ, zero, suc, ◌*◌, ◌^◌, ◌≡◌, refl, List, [], take, set, replicate}
use Rattle.rules.specs.Limits.{least_out_small}
use Rattle.fields.specs.Places.{number, put}
use Rattle.slots.specs.Slots.{is_readable, is_input, record_bytes, is_blank, is_ended, sequence_in, value_in, kind_in, input_in, is_record, record_in, judged}
use Rattle.journal.specs.Journal.{slot_count, slot_at, with_slot, slots_from, slots_of}
use Rattle.lent_list.specs.Lists.{count_in}
use Rattle.lent_list.specs.Plain.{plain_fresh, plain_tick, plain_offer, plain_log}

buffer : List ℕ
buffer = replicate least_out_small 0

-- station 2 of 3, after some ticks
ticked : ℕ → List ℕ
unfolding plain_fresh plain_tick buffer
ticked zero = (plain_fresh (replicate 400 7) 3 2 2).bytes
ticked (suc k) = (plain_tick (ticked k) buffer).list

-- three ticks are taken, a fourth finds no slot; a list a byte short gets 1, as an offered name that isn't one does; another number
-- in the second record gets 2
the_answers : (count_in (ticked 3) ≡ 3) × ((plain_tick (ticked 3) buffer).result ≡ 13 * 2 ^ 32) × ((plain_tick (take 399 (ticked 1)) buffer).result ≡ 1 * 2 ^ 32)
    × ((plain_offer [] (ticked 1) buffer).result ≡ 1 * 2 ^ 32) × ((plain_tick (set (ticked 2) 150 5) buffer).result ≡ 2 * 2 ^ 32) × ((plain_log (ticked 3) buffer).result ≡ 0)
unfolding ticked buffer count_in plain_tick plain_offer plain_log number put is_readable is_input record_bytes is_blank is_ended sequence_in value_in kind_in input_in is_record record_in judged slot_count slot_at with_slot slots_from slots_of
the_answers = (refl, refl, refl, refl, refl, refl)
