-- `plain_logs::reports` meets its contract: what is left is still to be said. Assumes nothing.
use Prim.Native.Nat.{◌-◌}
use Rattle.plain_logs.proofs.Saying.{Reporting}
use Rattle.plain_logs.proofs.reports.Given as goal

abbrev pub invariant-loop-k : goal.invariant-loop-k
invariant-loop-k l = Reporting l.log l.initial.out l.at l.from l.out l.k l.next
