-- `fields::all_zero` meets its contract: the or is 0 exactly where the bytes passed are. Assumes nothing.
use Prim.Native.Nat.{◌≤◌, ◌-◌}
use Rattle.fields.specs.Places.{number}
use Rattle.fields.proofs.Differ.{Same}
use Rattle.fields.proofs.all_zero.Given as goal

abbrev pub invariant-loop-k : goal.invariant-loop-k
invariant-loop-k l = (l.k ≤ l.width) × Same l.any (number l.s l.at l.k) 0

abbrev pub decreases-loop-k : goal.decreases-loop-k
decreases-loop-k l = l.width - l.k
