-- `stated::all_good` meets its contract. Assumes nothing.
use Prim.Native.Nat.{◌-◌}
use mathlib.Core.Path.{◌≡◌}
use Rattle.rules.specs.WellFormed.{statement_good}
use Rattle.rules.specs.Lists.{all}
use Rattle.store.specs.Decode.{rows, statement_at, statements}
use Rattle.heading.specs.Alone.{alone}
use Rattle.stated.proofs.all_good.Given as goal

abbrev pub invariant-loop-i : goal.invariant-loop-i
invariant-loop-i l =
    all (statement_good (alone l.station)) (statements l.store) ≡ all (statement_good (alone l.station)) (rows (statement_at l.store) l.i (l.count - l.i))
