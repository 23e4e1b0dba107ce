-- `reports::logging` meets its contract. The invariant: the names up to k are logged and reported. Assumes nothing.
use Rattle.reports.proofs.Names.{Logged}
use Prim.Native.Nat.{◌-◌, ◌≤◌}
use Rattle.reports.proofs.logging.Given as goal

abbrev pub invariant-loop-k : goal.invariant-loop-k
invariant-loop-k l =
    (l.k ≤ l.len) × Logged l.initial.store l.gained l.initial.out l.at l.k l.store l.out l.next
