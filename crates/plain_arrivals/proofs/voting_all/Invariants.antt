-- `plain_arrivals::voting_all` meets its contract: what is left is still to be voted on. Assumes nothing.
use Prim.Native.Nat.{◌-◌}
use Rattle.plain_arrivals.proofs.Laws.{Voting}
use Rattle.plain_arrivals.proofs.voting_all.Given as goal

abbrev pub invariant-loop-i : goal.invariant-loop-i
invariant-loop-i l = Voting l.xs l.initial.engine l.initial.out l.at l.out l.i l.engine l.next
