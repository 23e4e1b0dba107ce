-- `commit::commit_due` meets its contract. The invariant: the due statements from place i on have joined the log, and the last chain
-- walked, if whole, is in it. Assumes nothing.
use Rattle.glance.specs.Votes.{is_ripe}
use Rattle.commit.proofs.Course.{Course}
use Rattle.commit.proofs.commit_due.Given as goal

abbrev pub invariant-loop-i : goal.invariant-loop-i
invariant-loop-i l =
    Course l.store (is_ripe l.view l.wait l.clock) l.count l.i l.len l.gained l.chain l.height l.left
