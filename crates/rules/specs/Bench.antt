-- 01, 'Examples on the bench': those marked (P), one for each of the 'Slips we have seen proposed', and the corners of
-- every other clause. proofs/Bench.antt evaluates them together, under a single claim. Assumes nothing.
use Rattle.std.specs.Prelude.{suc, Bool, List, [], ◌∷◌, ◌++◌, length, take, eqb}
use Rattle.rules.specs.Limits.{last_view_small}
use Rattle.rules.specs.Messages.{new_view, propose, vote, blame_set, status, write, to_all, to_one, committed}
use Rattle.rules.specs.Script.{◌⇒◌, idle, holds, ticks, hears, hears_bytes, is_offered, bytes, exactly, says, refuses, made, station, block, other}

-- n=3, D=2
unfoldable pub bench : List Bool
unfolding station made block other write
bench =
    -- "Station 2, no messages: ticks 1 to 13 write nothing; tick 14 writes whole: .."
    station 2 (idle 13 ∷ ticks ⇒ exactly (0x10 ∷ 0x00 ∷ 0x0F ∷ 0x01 ∷ 0x00 ∷ 0x01 ∷ 0x04 ∷ 0x02 ∷ 0x00 ∷ 0x04 ∷ 0x00 ∷ 0x00 ∷ 0x00 ∷ 0x01 ∷ 0x08 ∷ 0x00 ∷ 0x01 ∷ 0x02 ∷ []) ∷ [])
    -- "Station 1 at tick 5 writes new-view and vote: 132 bytes"
    ∷ station 1 (idle 4 ∷ ticks ⇒ bytes 132 ∷ [])
    -- "Station 2 given a propose of height 1 at clock 7 writes 160 bytes; tick to 11 nothing; tick to 12 one commit, 39 bytes"
    ∷ station 2 (idle 7 ∷ hears block ⇒ bytes 160 ∷ idle 4 ∷ ticks ⇒ bytes 39 ∷ [])
    -- "Same, conflicting propose at clock 11: 200 bytes, no commit at 12"
    ∷ station 2 (idle 7 ∷ hears block ⇒ bytes 160 ∷ idle 4 ∷ hears other ⇒ bytes 200 ∷ idle 1 ∷ [])
    -- "Quit at 20: nothing at 22, entry at 23"
    ∷ station 0 (idle 13 ∷ ticks ⇒ bytes 18 ∷ idle 6 ∷ hears (blame_set 1 3) ⇒ bytes 19 ∷ idle 2 ∷ ticks ⇒ bytes 62 ∷ [])
    -- "After one propose vote, entry 0: blame at 18, not 17"
    ∷ station 2 (idle 3 ∷ hears block ⇒ bytes 160 ∷ idle 4 ∷ ticks ⇒ bytes 39 ∷ idle 9 ∷ ticks ⇒ bytes 18 ∷ [])
    -- "n=4, D=0, D=10,001: 10. n=15, D=10,000: 0"
    ∷ eqb (made 4 2 0) 10 ∷ eqb (made 3 0 0) 10 ∷ eqb (made 3 10001 0) 10 ∷ eqb (made 15 10000 14) 0
    -- "View 33, view 0, mask bit 3: 5. A one-bit certificate: 5"
    ∷ station 2 (hears (vote (suc last_view_small) 1 77 0) ⇒ refuses 5 ∷ hears (vote 0 1 77 0) ⇒ refuses 5 ∷ hears (blame_set 1 11) ⇒ refuses 5 ∷ hears (propose 1 1 77 0 1 1) ⇒ refuses 5 ∷ [])
    -- "Lock rank (1,3), new-view rank (1,2): stored, no vote"
    ∷ station 0 (hears (status 3 79 1 3) ⇒ bytes 0 ∷ hears (blame_set 1 3) ⇒ bytes 19 ∷ idle 2 ∷ ticks ⇒ bytes 62 ∷ hears (new_view 2 2 80 1 3 2) ⇒ bytes 0
    ∷ holds (λ s. eqb (length s.statements) 1) ∷ [])
    -- "A message one byte short or long: 4"
    ∷ station 0 (hears_bytes (take 96 (write block)) ⇒ refuses 4 ∷ hears_bytes (write block ++ 0 ∷ []) ⇒ refuses 4 ∷ [])
    ∷ []

unfoldable pub slips : List Bool
unfolding station block
slips =
    -- "firing the commit at exactly 2D": voted at 0, nothing at 4, committed at 5
    station 2 (hears block ⇒ bytes 160 ∷ idle 4 ∷ ticks ⇒ says (committed 1 77 ∷ []) ∷ [])
    -- "dropping messages of a view not yet entered": the propose of view 2 came in view 1
    ∷ station 0 (hears (propose 2 1 77 0 3 2) ⇒ bytes 0 ∷ hears (blame_set 1 3) ⇒ bytes 19 ∷ idle 2
    ∷ ticks ⇒ says (to_one 2 (status 0 0 0 0) ∷ to_all (propose 2 1 77 0 3 2) ∷ to_all (vote 2 1 77 0) ∷ []) ∷ [])
    -- "counting a voter twice, by adding instead of joining masks": one station votes three times
    ∷ station 1 (idle 4 ∷ ticks ⇒ bytes 132 ∷ hears (vote 1 0 0 1) ⇒ bytes 0 ∷ hears (vote 1 0 0 1) ⇒ bytes 0 ∷ is_offered 77 ⇒ refuses 9 ∷ [])
    -- "ranking by height before view": the lock is (2,1), not (1,3)
    ∷ station 0 (hears (status 3 79 1 3) ⇒ bytes 0 ∷ hears (status 1 80 2 3) ⇒ bytes 0 ∷ hears (blame_set 1 3) ⇒ bytes 19 ∷ idle 2
    ∷ ticks ⇒ says (to_one 2 (status 3 79 1 3) ∷ []) ∷ hears (blame_set 2 3) ⇒ bytes 19 ∷ idle 3 ∷ hears (new_view 3 1 80 2 3 0) ⇒ bytes 132 ∷ [])
    -- "entering at once after quitting, without the D wait"
    ∷ station 0 (hears (blame_set 1 3) ⇒ bytes 19 ∷ idle 2 ∷ ticks ⇒ bytes 62 ∷ [])
    -- "ceasing to gather votes once quit: the lock may miss a certificate"
    ∷ station 0 (hears (blame_set 1 3) ⇒ bytes 19 ∷ hears (vote 1 1 77 1) ⇒ bytes 0 ∷ hears (vote 1 1 77 2) ⇒ bytes 0 ∷ idle 2
    ∷ ticks ⇒ says (to_one 2 (status 1 77 1 6) ∷ []) ∷ [])
    ∷ []
