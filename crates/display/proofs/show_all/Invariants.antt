-- `display::show_all` meets its contract. The invariant: the statements before place i are shown. Assumes nothing.
use Prim.Native.Nat.{◌-◌, ◌≤◌}
use Rattle.display.proofs.Bytes.{SoFar}
use Rattle.display.proofs.show_all.Given as goal

abbrev pub invariant-loop-i : goal.invariant-loop-i
invariant-loop-i l =
    (l.i ≤ l.station.statements) × SoFar l.store l.initial.out l.i l.out l.next
