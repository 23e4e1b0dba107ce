-- `linked::first_sought` meets its contract. Assumes nothing.
use Rattle.linked.proofs.Heights.{Seeking}
use Rattle.linked.proofs.first_sought.Given as goal

abbrev pub invariant-loop-rest : goal.invariant-loop-rest
invariant-loop-rest l =
    Seeking l.store l.k l.count l.rest l.hung.nexts l.foremost

abbrev pub decreases-loop-rest : goal.decreases-loop-rest
decreases-loop-rest l = l.rest
