-- `openers::few_opened` meets its contract. Assumes nothing.
use Prim.Native.Nat.{◌≤◌}
use mathlib.Core.Path.{◌≡◌}
use Rattle.rules.specs.WellFormed.{few_opened}
use Rattle.store.specs.Decode.{tallies}
use Rattle.openers.proofs.few_opened.Given as goal

abbrev pub invariant-loop-author : goal.invariant-loop-author
invariant-loop-author l =
    (l.author ≤ l.n) × (l.few ≡ few_opened l.author (tallies l.store))
