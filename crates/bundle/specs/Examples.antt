-- Lists of places and what writing them answers and leaves, evaluated together under a single claim. Assumes nothing.
use Rattle.std.specs.Prelude.{◌≡◌, refl, ℕ, zero, suc, ◌*◌, ◌^◌, Bool, ◌&&◌, List, [], ◌∷◌, ◌++◌, length, take, drop, replicate, eqb}
use Rattle.std.proofs.Math.Option.{none, some}
use Rattle.rules.specs.Messages.{field, vote, blame, blame_set, write, read}
use Rattle.rules.specs.Script.{failing, same_list}
use Rattle.envelope.specs.Places.{Place, list_bytes}
use Rattle.items.specs.Reading.{most_bytes}
use Rattle.bundle.specs.Writing.{gathered, bundle_of, writing}

-- messages of 15, 57 and 16 bytes, one behind the other
memory : List ℕ
unfolding write
memory = write (blame 1 0) ++ (write (vote 1 2 77 0) ++ write (blame_set 1 3))

at : ℕ → ℕ → Place
at o n = record { offset = o; size = n }

-- their places
first : Place
unfolding at
first = at 0 15

second : Place
unfolding at
second = at 15 57

third : Place
unfolding at
third = at 72 16

times : ℕ → Place → List Place
times zero p = []
times (suc k) p = p ∷ times k p

-- a buffer as a host lends it, what is answered, and what is left of the buffer
lent : List ℕ
lent = replicate most_bytes 7

answer : List Place → ℕ
unfolding memory lent list_bytes writing
answer ps = (writing memory (list_bytes ps) lent).result

left : ℕ → List Place → List ℕ
unfolding memory lent list_bytes writing
left k ps = take k (writing memory (list_bytes ps) lent).bytes

refused : List Place → Bool
unfolding answer memory lent list_bytes writing same_list
refused ps = eqb (answer ps) (14 * 2 ^ 32) && same_list (writing memory (list_bytes ps) lent).bytes lent

-- how long the envelope of some places is, 0 where there is none
size : List Place → ℕ
unfolding memory gathered bundle_of
size ps = elim (bundle_of (gathered memory ps)) [ none ↦ 0 | some e ↦ length e ]

examples : List Bool
unfolding size memory at first second third times lent answer left refused list_bytes writing same_list field write
examples =
    -- no message, one, and some in the order of the list; places may repeat
    eqb (answer []) 3 ∷ same_list (left 4 []) (0x30 ∷ 0 ∷ 0 ∷ 7 ∷ [])
    ∷ eqb (answer (first ∷ [])) 21 ∷ same_list (left 22 (first ∷ [])) (field 0x30 (field 0x31 (take 15 memory)) ++ 7 ∷ [])
    ∷ eqb (answer (third ∷ second ∷ third ∷ [])) 101
    ∷ same_list (left 102 (third ∷ second ∷ third ∷ []))
    (field 0x30 (field 0x31 (drop 72 memory) ++ (field 0x31 (take 57 (drop 15 memory)) ++ field 0x31 (drop 72 memory))) ++ 7 ∷ [])
    -- "or one that isn't readable": one byte short, one byte on, none; and a place outside the bytes
    ∷ refused (at 0 14 ∷ []) ∷ refused (at 1 15 ∷ []) ∷ refused (at 0 0 ∷ []) ∷ refused (first ∷ at 72 15 ∷ []) ∷ refused (at 0 88 ∷ first ∷ [])
    ∷ refused (at 72 17 ∷ []) ∷ refused (at 73 16 ∷ []) ∷ refused (at 88 0 ∷ []) ∷ refused (at 4_294_967_295 15 ∷ []) ∷ refused (at 0 4_294_967_295 ∷ [])
    -- "messages that would pass 8,192 bytes"
    ∷ eqb (size (times 437 first ++ times 17 third)) most_bytes ∷ eqb (size (times 455 first)) 0 ∷ eqb (size (times 136 second ++ times 2 third)) 0
    -- a list that isn't of eights, and a buffer too short
    ∷ eqb (writing memory (0 ∷ list_bytes (first ∷ [])) lent).result (2 ^ 32) ∷ eqb (writing memory (take 7 (list_bytes (first ∷ []))) lent).result (2 ^ 32)
    ∷ eqb (writing memory [] (drop 1 lent)).result (2 ^ 32) ∷ same_list (writing memory [] (drop 1 lent)).bytes (drop 1 lent)
    ∷ []

the_examples : failing 1 examples ≡ []
unfolding failing examples read
the_examples = refl
