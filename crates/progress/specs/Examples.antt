-- Schedules of request 12, n=3, D=1, station 1 faulty: it leads view 1 and says nothing but a blame to station 0, which so quits view 1 a
-- tick before station 2, the leader of view 2. Everything is delivered as late as it may be. proofs/Examples.antt evaluates them.
-- Assumes nothing.
use Rattle.std.specs.Prelude.{ℕ, Bool, true, false, not, ◌&&◌, List, [], ◌∷◌, ◌++◌, eqb, length}
use Rattle.rules.specs.Limits.{Size}
use Rattle.rules.specs.Sizes.{leader}
use Rattle.rules.specs.Messages.{Message, new_view, propose, vote, blame, blame_set, status, write}
use Rattle.agreement.specs.Schedule.{Event, idle, common_tick, tick_of, given, offered_to, settings_of, at}
use Rattle.agreement.specs.Checks.{implies, every, listed}
use Rattle.progress.specs.Progress.{possible}

abbrev hears : ℕ → Message → Event
hears j m = given j (write m)

-- view 1: both blame at clock 8; station 0 enters view 2 at clock 10, station 2 at clock 11
unfoldable pub opening : List Event
unfolding write
opening =
    common_tick ∷ common_tick ∷ common_tick ∷ common_tick ∷ common_tick ∷ common_tick ∷ common_tick ∷ hears 0 (blame 1 1) ∷ common_tick ∷ common_tick
    ∷ hears 2 (blame 1 0) ∷ hears 2 (blame_set 1 3) ∷ hears 0 (blame 1 2) ∷ common_tick ∷ hears 0 (blame_set 1 5) ∷ common_tick
    ∷ hears 2 (status 0 0 0 0) ∷ common_tick ∷ []

-- the new-view of clock 14 and the votes for it, which reach station 2 at clock 16
unfoldable pub opened : List Event
unfolding opening write
opened =
    opening
    ++ common_tick ∷ common_tick ∷ common_tick ∷ hears 0 (new_view 2 0 0 0 0 2) ∷ hears 0 (vote 2 0 0 2) ∷ common_tick
    ∷ hears 2 (new_view 2 0 0 0 0 2) ∷ hears 2 (vote 2 0 0 0) ∷ []

-- every name is offered as it is wanted, at clocks 16, 18 and 20; station 0 votes at 17 and 19
unfoldable pub steady : List Event
unfolding opened write
steady =
    opened
    ++ offered_to 2 77 ∷ common_tick ∷ hears 0 (propose 2 1 77 0 5 2) ∷ hears 0 (vote 2 1 77 2) ∷ common_tick ∷ hears 2 (propose 2 1 77 0 5 2)
    ∷ hears 2 (vote 2 1 77 0) ∷ offered_to 2 78 ∷ common_tick ∷ hears 0 (propose 2 2 78 77 5 2) ∷ hears 0 (vote 2 2 78 2) ∷ common_tick
    ∷ hears 2 (propose 2 2 78 77 5 2) ∷ hears 2 (vote 2 2 78 0) ∷ offered_to 2 79 ∷ common_tick ∷ []

-- the first name is offered a tick late
unfoldable pub late_offer : List Event
unfolding opened
late_offer = opened ++ common_tick ∷ offered_to 2 77 ∷ common_tick ∷ []

-- the second name that is offered is the first again, which is refused
unfoldable pub used_name : List Event
unfolding opened write
used_name =
    opened
    ++ offered_to 2 77 ∷ common_tick ∷ hears 0 (propose 2 1 77 0 5 2) ∷ hears 0 (vote 2 1 77 2) ∷ common_tick ∷ hears 2 (propose 2 1 77 0 5 2)
    ∷ hears 2 (vote 2 1 77 0) ∷ offered_to 2 77 ∷ common_tick ∷ common_tick ∷ []

-- the new-view comes to station 0 a tick late
unfoldable pub late_delivery : List Event
unfolding opening write
late_delivery =
    opening
    ++ common_tick ∷ common_tick ∷ common_tick ∷ hears 0 (vote 2 0 0 2) ∷ common_tick ∷ hears 0 (new_view 2 0 0 0 0 2) ∷ common_tick
    ∷ hears 2 (new_view 2 0 0 0 0 2) ∷ hears 2 (vote 2 0 0 0) ∷ offered_to 2 77 ∷ common_tick ∷ []

-- station 0 is handed a set of blames of view 2 that names station 2, which blamed nobody
unfoldable pub forged_blame : List Event
unfolding opening write
forged_blame = opening ++ hears 0 (blame_set 2 6) ∷ common_tick ∷ hears 2 (blame_set 2 6) ∷ common_tick ∷ []

-- ---- the test of a prompt leader

unfoldable pub is_tick : Event → Bool
is_tick idle = false
is_tick common_tick = true
is_tick (tick_of j) = false
is_tick (given j bs) = false
is_tick (offered_to j b) = false

unfoldable pub all_prompt : (size : Size) (n D : ℕ) → List Event → ℕ → Bool
unfolding every implies is_tick listed at possible leader
all_prompt size n D es v =
    let i = leader (settings_of size n D 0) v in
    every (length es) (λ k. implies (is_tick (listed es k) && eqb (at size n D (listed es) i k).view v) (not (possible (at size n D (listed es) i k))))
