-- Schedules that show what the theorems of demand 3 are about: two in which all premises hold, and for each of five premises one
-- in which the others hold and the logs split or the commit is missed. proofs/Examples.antt evaluates them. Assumes nothing.
use Rattle.std.specs.Prelude.{ℕ, true, false, ◌||◌, List, [], ◌∷◌, eqb}
use Rattle.rules.specs.Messages.{Message, new_view, propose, vote, blame, blame_set, status, write}
use Rattle.agreement.specs.Schedule.{Event, common_tick, tick_of, given, offered_to}

abbrev hears : ℕ → Message → Event
hears j m = given j (write m)

-- n=3, D=1, station 2 faulty: station 1 leads view 1 and two blocks are committed; in view 2 station 2 sends each its own new-view;
-- station 0 leads view 3 and a third block is committed
unfoldable pub two_views : List Event
unfolding write
two_views =
    common_tick ∷ common_tick ∷ common_tick ∷ hears 0 (new_view 1 0 0 0 0 1) ∷ hears 0 (vote 1 0 0 1)
    ∷ hears 1 (new_view 1 0 0 0 0 1) ∷ hears 1 (vote 1 0 0 0) ∷ offered_to 1 77 ∷ hears 0 (propose 1 1 77 0 3 1)
    ∷ hears 0 (vote 1 1 77 1) ∷ hears 1 (propose 1 1 77 0 3 1) ∷ hears 1 (vote 1 1 77 0) ∷ offered_to 1 78
    ∷ hears 0 (propose 1 2 78 77 3 1) ∷ hears 0 (vote 1 2 78 1) ∷ hears 1 (propose 1 2 78 77 3 1)
    ∷ hears 1 (vote 1 2 78 0) ∷ common_tick ∷ common_tick ∷ common_tick ∷ common_tick ∷ common_tick ∷ common_tick ∷ common_tick
    ∷ common_tick ∷ common_tick ∷ hears 1 (blame 1 0) ∷ hears 0 (blame 1 1) ∷ hears 0 (blame_set 1 3)
    ∷ hears 1 (blame_set 1 3) ∷ common_tick ∷ common_tick ∷ hears 0 (new_view 2 2 78 1 3 2) ∷ hears 1 (new_view 2 0 0 0 0 2)
    ∷ hears 1 (new_view 2 2 78 1 3 2) ∷ hears 1 (vote 2 2 78 0) ∷ hears 0 (new_view 2 0 0 0 0 2)
    ∷ hears 0 (new_view 2 2 78 1 3 2) ∷ hears 1 (new_view 2 2 78 1 3 2) ∷ hears 1 (new_view 2 0 0 0 0 2) ∷ common_tick
    ∷ common_tick ∷ hears 0 (status 2 78 1 3) ∷ common_tick ∷ common_tick ∷ common_tick ∷ hears 1 (new_view 3 2 78 1 3 0)
    ∷ hears 1 (vote 3 2 78 0) ∷ hears 0 (new_view 3 2 78 1 3 0) ∷ hears 0 (vote 3 2 78 1) ∷ offered_to 0 79
    ∷ hears 1 (propose 3 3 79 78 3 0) ∷ hears 1 (vote 3 3 79 0) ∷ hears 0 (propose 3 3 79 78 3 0)
    ∷ hears 0 (vote 3 3 79 1) ∷ common_tick ∷ common_tick ∷ common_tick ∷ []

-- n=3, D=1, station 2 faulty: it blames view 1 to station 0 alone, which so quits a tick before station 1, and hands it a new-view of
-- view 2; station 0 enters view 2 and speaks of it at once (event 19), while station 1 still waits after view 1
unfoldable pub one_ahead : List Event
unfolding write
one_ahead =
    common_tick ∷ common_tick ∷ common_tick ∷ hears 0 (new_view 1 0 0 0 0 1) ∷ hears 0 (vote 1 0 0 1)
    ∷ hears 1 (new_view 1 0 0 0 0 1) ∷ hears 1 (vote 1 0 0 0) ∷ common_tick ∷ common_tick ∷ common_tick ∷ common_tick
    ∷ hears 0 (new_view 2 0 0 1 3 2) ∷ hears 0 (blame 1 2) ∷ common_tick ∷ hears 0 (blame 1 1) ∷ common_tick
    ∷ hears 1 (blame 1 0) ∷ hears 1 (blame_set 1 5) ∷ hears 0 (blame_set 1 3) ∷ common_tick ∷ hears 1 (new_view 2 0 0 1 3 2)
    ∷ hears 1 (vote 2 0 0 0) ∷ common_tick ∷ []

-- n=3, D=1, station 1 faulty: it proposes one block to station 0 and another to station 2, and what they send stays undelivered
unfoldable pub held_back : List Event
unfolding write
held_back =
    hears 0 (new_view 1 0 0 0 0 1) ∷ hears 2 (new_view 1 0 0 0 0 1) ∷ hears 0 (propose 1 1 77 0 3 1)
    ∷ hears 2 (propose 1 1 78 0 5 1) ∷ common_tick ∷ common_tick ∷ common_tick ∷ []

-- n=3, D=1, station 1 faulty: it proposes a block above one that nobody saw, with a vote for that which station 0 never sent
unfoldable pub forged_votes : List Event
unfolding write
forged_votes =
    hears 0 (propose 1 2 99 98 3 1) ∷ hears 2 (propose 1 2 99 98 3 1) ∷ hears 2 (vote 1 2 99 0)
    ∷ hears 0 (propose 1 2 99 98 3 1) ∷ hears 0 (vote 1 2 99 2) ∷ common_tick ∷ common_tick ∷ common_tick ∷ []

-- n=5, D=1, stations 1, 2 and 3 faulty: they certify by themselves a block that nobody saw, and station 1 proposes one above it
unfoldable pub many_faulty : List Event
unfolding write
many_faulty =
    hears 0 (propose 1 2 99 98 14 1) ∷ hears 4 (propose 1 2 99 98 14 1) ∷ hears 4 (vote 1 2 99 0)
    ∷ hears 0 (propose 1 2 99 98 14 1) ∷ hears 0 (vote 1 2 99 4) ∷ common_tick ∷ common_tick ∷ common_tick ∷ []

-- n=3, D=1, station 1 faulty: it proposes the name 99 with parent 77 to station 0 and with parent 78 to station 2
unfoldable pub two_parents : List Event
unfolding write
two_parents =
    hears 0 (new_view 1 0 0 0 0 1) ∷ hears 2 (new_view 1 0 0 0 0 1) ∷ hears 0 (propose 1 1 77 0 3 1)
    ∷ hears 2 (propose 1 1 78 0 6 1) ∷ hears 0 (propose 1 2 99 77 3 1) ∷ hears 2 (propose 1 2 99 78 6 1)
    ∷ hears 0 (propose 1 3 100 99 3 1) ∷ hears 2 (propose 1 3 100 99 6 1) ∷ hears 2 (new_view 1 0 0 0 0 1)
    ∷ hears 2 (vote 1 0 0 0) ∷ hears 0 (new_view 1 0 0 0 0 1) ∷ hears 0 (vote 1 0 0 2) ∷ hears 2 (propose 1 1 77 0 3 1)
    ∷ hears 2 (vote 1 1 77 0) ∷ hears 0 (propose 1 1 78 0 6 1) ∷ hears 0 (vote 1 1 78 2) ∷ hears 2 (propose 1 2 99 77 3 1)
    ∷ hears 2 (vote 1 2 99 0) ∷ hears 0 (propose 1 2 99 78 6 1) ∷ hears 0 (vote 1 2 99 2)
    ∷ hears 2 (propose 1 3 100 99 3 1) ∷ hears 2 (vote 1 3 100 0) ∷ hears 0 (propose 1 3 100 99 6 1)
    ∷ hears 0 (vote 1 3 100 2) ∷ hears 0 (propose 1 1 78 0 6 1) ∷ hears 0 (propose 1 1 77 0 3 1)
    ∷ hears 2 (propose 1 1 77 0 3 1) ∷ hears 2 (propose 1 1 78 0 6 1) ∷ common_tick ∷ common_tick
    ∷ hears 2 (status 3 100 1 5) ∷ common_tick ∷ common_tick ∷ common_tick ∷ hears 0 (new_view 2 3 100 1 5 2)
    ∷ hears 0 (vote 2 3 100 2) ∷ hears 2 (new_view 2 3 100 1 5 2) ∷ hears 2 (vote 2 3 100 0) ∷ offered_to 2 101
    ∷ hears 0 (propose 2 4 101 100 5 2) ∷ hears 0 (vote 2 4 101 2) ∷ hears 2 (propose 2 4 101 100 5 2)
    ∷ hears 2 (vote 2 4 101 0) ∷ common_tick ∷ common_tick ∷ common_tick ∷ []

-- n=3, D=1, station 1 faulty: station 2 votes for a block and is not ticked; station 0 votes for one above it and is ticked alone
unfoldable pub own_ticks : List Event
unfolding write
own_ticks =
    hears 2 (new_view 1 0 0 0 0 1) ∷ hears 2 (propose 1 1 98 0 6 1) ∷ hears 0 (propose 1 2 99 98 6 1)
    ∷ hears 2 (propose 1 2 99 98 6 1) ∷ hears 2 (vote 1 2 99 0) ∷ tick_of 0 ∷ tick_of 0 ∷ tick_of 0 ∷ []

-- the blocks of these schedules: each name's height and parent
unfoldable pub height_of : ℕ → ℕ
height_of b =
    elim (eqb b 77 || eqb b 98) [ true ↦ 1 | false ↦ elim (eqb b 78 || eqb b 99) [ true ↦ 2 | false ↦ elim (eqb b 79) [ true ↦ 3 | false ↦ 0 ] ] ]

unfoldable pub parent_of : ℕ → ℕ
parent_of b = elim (eqb b 78) [ true ↦ 77 | false ↦ elim (eqb b 79) [ true ↦ 78 | false ↦ elim (eqb b 99) [ true ↦ 98 | false ↦ 0 ] ] ]

-- in the schedule that is held back two blocks stand at height 1
unfoldable pub rival_height : ℕ → ℕ
rival_height b = elim (eqb b 0) [ true ↦ 0 | false ↦ 1 ]

unfoldable pub rival_parent : ℕ → ℕ
rival_parent b = 0
