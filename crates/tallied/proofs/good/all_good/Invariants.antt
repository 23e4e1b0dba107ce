-- `tallied::good::all_good` meets its contract. Assumes nothing.
use Prim.Native.Nat.{◌-◌}
use mathlib.Core.Path.{◌≡◌}
use Rattle.rules.specs.WellFormed.{tally_good}
use Rattle.rules.specs.Lists.{all}
use Rattle.settings.specs.Made.{settings_of}
use Rattle.store.specs.Decode.{rows, tally_at, tallies}
use Rattle.tallied.proofs.good.all_good.Given as goal

abbrev pub invariant-loop-i : goal.invariant-loop-i
invariant-loop-i l =
    all (tally_good (settings_of l.settings) l.clock) (tallies l.store) ≡ all (tally_good (settings_of l.settings) l.clock) (rows (tally_at l.store) l.i (l.count - l.i))
