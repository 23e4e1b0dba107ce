-- `fields::same` meets its contract: the or is 0 exactly where the bytes passed are the same. Assumes nothing.
use Prim.Native.Nat.{◌≤◌, ◌-◌}
use Rattle.fields.specs.Places.{number}
use Rattle.fields.proofs.Differ.{Same}
use Rattle.fields.proofs.same.Given as goal

abbrev pub invariant-loop-k : goal.invariant-loop-k
invariant-loop-k l = (l.k ≤ l.width) × Same l.any (number l.a l.i l.k) (number l.b l.j l.k)

abbrev pub decreases-loop-k : goal.decreases-loop-k
decreases-loop-k l = l.width - l.k
