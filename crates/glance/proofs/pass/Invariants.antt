-- `glance::pass` meets its contract. The invariant: what it ensures, from place i on. The measure is i. Assumes nothing.
use Rattle.glance.specs.Looks.{OthersFrom}
use Prim.Native.Nat.{◌≤◌}
use Rattle.glance.proofs.pass.Given as goal

abbrev pub invariant-loop-i : goal.invariant-loop-i
invariant-loop-i l =
    (l.i ≤ l.from) × OthersFrom l.store l.view l.i l.from

abbrev pub decreases-loop-i : goal.decreases-loop-i
decreases-loop-i l =
    l.i
