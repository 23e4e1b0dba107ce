-- `glance::look_down` meets its contract. The invariant: what it ensures, of the statements from place i on. The measure is i. Assumes nothing.
use Rattle.glance.proofs.Looking.{Looking}
use Rattle.glance.proofs.look_down.Given as goal

abbrev pub invariant-loop-i : goal.invariant-loop-i
invariant-loop-i l =
    Looking l.store l.told l.view l.wait l.clock l.count l.i l.votes l.settled

abbrev pub decreases-loop-i : goal.decreases-loop-i
decreases-loop-i l =
    l.i
