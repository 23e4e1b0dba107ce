-- `text::which` meets its contract. The invariant: k words are passed, and none was the one. Assumes nothing.
use Rattle.text.proofs.Runs.{Passed}
use Rattle.text.specs.Places.{Lists}
use Prim.Native.Nat.{ℕ, ◌≤◌, ◌-◌}
use mathlib.Core.List.{List}
use lib.ListN.{length}
use Rattle.text.proofs.which.Given as goal

abbrev pub invariant-loop-it : goal.invariant-loop-it
invariant-loop-it l =
    (l.at ≤ length l.list) × (l.k ≤ l.at) × ((ws : List (List ℕ)) → Lists ws l.list → Passed ws l.list l.it l.at l.k)

abbrev pub decreases-loop-it : goal.decreases-loop-it
decreases-loop-it l = length l.list - l.at
