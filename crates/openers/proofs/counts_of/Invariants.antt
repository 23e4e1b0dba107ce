-- `openers::counts_of` meets its contract. Assumes nothing.
use Prim.Native.Nat.{◌-◌, ◌≤◌}
use mathlib.Core.Path.{◌≡◌}
use lib.ListN.{length}
use Rattle.openers.specs.Counted.{Counted}
use Rattle.openers.proofs.counts_of.Given as goal

abbrev pub invariant-loop-i : goal.invariant-loop-i
invariant-loop-i l =
    (l.i ≤ l.count) × (length l.counts ≡ 256) × Counted l.store l.i (l.count - l.i) l.counts
