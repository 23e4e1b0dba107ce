-- Envelopes and what reading them answers and lists, which proofs/Examples.antt evaluates together, under a single claim. Assumes nothing.
use Rattle.std.specs.Prelude.{ℕ, zero, suc, ◌*◌, ◌^◌, Bool, ◌&&◌, List, [], ◌∷◌, ◌++◌, length, take, drop, replicate, eqb}
use Rattle.rules.specs.Messages.{field, vote, blame, blame_set, write}
use Rattle.rules.specs.Script.{same_list}
use Rattle.items.specs.Reading.{most_bytes, envelope_in}
use Rattle.envelope.specs.Reading.{least_list, reading}

-- messages of 15, 16 and 57 bytes
short : List ℕ
unfolding write
short = write (blame 1 0)

set : List ℕ
unfolding write
set = write (blame_set 1 3)

long : List ℕ
unfolding write
long = write (vote 1 2 77 0)

-- an item of a message, and an envelope of the bytes of its items
item : List ℕ → List ℕ
unfolding field
item m = field 0x31 m

of : List ℕ → List ℕ
unfolding field
of bs = field 0x30 bs

-- so many items of a message
times : ℕ → List ℕ → List ℕ
unfolding item
times zero m = []
times (suc k) m = item m ++ times k m

-- a list as a host lends it, what is answered, and the first bytes that are left of the list
lent : List ℕ
lent = replicate least_list 7

answer : List ℕ → ℕ
unfolding reading lent
answer s = (reading s lent).result

left : ℕ → List ℕ → List ℕ
unfolding reading lent
left k s = take k (reading s lent).bytes

refused : List ℕ → Bool
unfolding answer reading lent same_list
refused s = eqb (answer s) (14 * 2 ^ 32) && same_list (reading s lent).bytes lent

-- the bytes with one more at a place, and with another at it
stray : ℕ → List ℕ → List ℕ
stray k s = take k s ++ 0 ∷ drop k s

other : ℕ → ℕ → List ℕ → List ℕ
other k x s = take k s ++ x ∷ drop (suc k) s

unfoldable pub examples : List Bool
unfolding short set long item of times lent answer left refused stray other reading envelope_in same_list write field
examples =
    -- no items, one, and two, "left to right": each by its offset and its length
    eqb (answer (of [])) 0 ∷ same_list (left 1 (of [])) (7 ∷ [])
    ∷ eqb (answer (of (item short))) 1 ∷ same_list (left 9 (of (item short))) (0 ∷ 0 ∷ 0 ∷ 6 ∷ 0 ∷ 0 ∷ 0 ∷ 15 ∷ 7 ∷ [])
    ∷ eqb (answer (of (item long ++ item short))) 2
    ∷ same_list (left 17 (of (item long ++ item short))) (0 ∷ 0 ∷ 0 ∷ 6 ∷ 0 ∷ 0 ∷ 0 ∷ 57 ∷ 0 ∷ 0 ∷ 0 ∷ 66 ∷ 0 ∷ 0 ∷ 0 ∷ 15 ∷ 7 ∷ [])
    -- envelopes inside: between two messages, and empty
    ∷ eqb (answer (of (item short ++ (of (item set) ++ item long)))) 3
    ∷ same_list (left 25 (of (item short ++ (of (item set) ++ item long)))) (0 ∷ 0 ∷ 0 ∷ 6 ∷ 0 ∷ 0 ∷ 0 ∷ 15 ∷ 0 ∷ 0 ∷ 0 ∷ 27 ∷ 0 ∷ 0 ∷ 0 ∷ 16 ∷ 0 ∷ 0 ∷ 0 ∷ 46 ∷ 0 ∷ 0 ∷ 0 ∷ 57 ∷ 7 ∷ [])
    ∷ eqb (answer (of (of [] ++ of []))) 0
    -- "to depth 4"; "depth 5"
    ∷ eqb (answer (of (of (of (of (item short)))))) 1 ∷ eqb (answer (of (of (of (of []))))) 0
    ∷ refused (of (of (of (of (of (item short)))))) ∷ refused (of (of (of (of (of [])))))
    -- "a stray byte": before, between and behind, outside and inside
    ∷ refused (stray 0 (of (item short))) ∷ refused (of (stray 18 (item short ++ item set))) ∷ refused (stray 21 (of (item short)))
    ∷ refused (of (stray 0 (item short))) ∷ refused (of (stray 18 (item short))) ∷ refused (of (of (stray 18 (item short ++ item set))))
    -- "a short length": of the outermost, of an inner envelope, of a message, and a tag without one
    ∷ refused [] ∷ refused (0x30 ∷ []) ∷ refused (0x30 ∷ 0 ∷ []) ∷ refused (other 2 19 (of (item short))) ∷ refused (other 2 17 (of (item short)))
    ∷ refused (of (other 2 19 (of (item short)))) ∷ refused (of (other 2 16 (item short))) ∷ refused (of (0x31 ∷ [])) ∷ refused (of (0x30 ∷ 0 ∷ []))
    -- a length past the parent's end, where bytes stand behind it
    ∷ refused (of (of (other 2 34 (item short)) ++ item set)) ∷ refused (of (other 2 20 (of (item short)) ++ item set))
    -- "an item that is no readable message": one byte short, one changed, none; and other tags
    ∷ refused (of (item (take 14 short))) ∷ refused (of (item (other 0 2 short))) ∷ refused (of (item [])) ∷ refused (of (item short ++ item []))
    ∷ refused (of (other 0 0x32 (item short))) ∷ refused (of short) ∷ refused (item short) ∷ refused short
    -- a list too short
    ∷ eqb (reading (of (item short)) (replicate 4095 7)).result (2 ^ 32) ∷ same_list (reading (of (item short)) (replicate 4095 7)).bytes (replicate 4095 7)
    ∷ eqb (reading [] []).result (2 ^ 32)
    -- "8,192 bytes in all"
    ∷ eqb (length (of (times 437 short ++ times 17 set))) most_bytes ∷ eqb (answer (of (times 437 short ++ times 17 set))) 454
    ∷ eqb (length (of (times 455 short))) (suc most_bytes) ∷ refused (of (times 455 short))
    ∷ []
