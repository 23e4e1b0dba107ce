-- The votes for the proposes of a view, and which are due for the log. Assumes nothing.
use Rattle.std.specs.Prelude.{ℕ, ◌+◌, ◌-◌, Bool, true, false, not, ◌&&◌, leb, eqb}
use Rattle.std.proofs.Math.Option.{Option, none, some}
use Rattle.rules.specs.Words.{Statement}
use Rattle.tallies.specs.Values.{vote_number}

-- the vote's number of a propose of a view; 0 of any other statement
abbrev pub vote_if : Bool → Option ℕ → ℕ
vote_if true v = vote_number v
vote_if false v = 0

unfoldable pub vote_in : ℕ → Statement → ℕ
vote_in view x = vote_if (not x.is_new_view && eqb x.view view) x.voted

-- a propose of a view that was voted for, as rules' `votes` counts them
unfoldable pub is_voted : ℕ → Statement → Bool
is_voted view x = not x.is_new_view && eqb x.view view && elim x.voted [ none ↦ false | some c ↦ true ]

-- a propose of a view that was voted for more than `wait` ticks before `now`, as rules' `is_due` has it in a view
unfoldable pub is_ripe : ℕ → ℕ → ℕ → Statement → Bool
is_ripe view wait now x =
    not x.is_new_view && eqb x.view view && elim x.voted [ none ↦ false | some c ↦ leb (wait + 1) (now - c) ]
