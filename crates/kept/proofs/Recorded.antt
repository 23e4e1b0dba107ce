-- A formed state with other tables, blame masks and log is formed, where these are: the header stays. Assumes nothing.
use Prim.Native.Nat.{ℕ}
use mathlib.Core.Path.{◌≡◌}
use mathlib.Core.Bool.{true}
use mathlib.Core.List.{List}
use Rattle.rules.specs.Words.{Statement, Tally, State}
use Rattle.rules.specs.Inputs.{with_tables, with_blames, with_log}
use Rattle.rules.specs.WellFormed.{clocks_in_order, lock_good, statement_good, blames_good}
use Rattle.kept.specs.Parts.{Tables, Formed}

pub recorded : {s : State} (f : Formed s) (xs : List Statement) (ts : List Tally) (ms l : List ℕ) → Tables (statement_good s) s.settings s.clock xs ts l
    → blames_good s.settings ms ≡ true → Formed (with_log l (with_blames ms (with_tables xs ts s)))
unfolding with_tables with_blames with_log clocks_in_order lock_good statement_good
recorded f xs ts ms l t b = record { settings = f.settings; view = f.view; clocks = f.clocks; lock = f.lock; tables = t; blames = b }
