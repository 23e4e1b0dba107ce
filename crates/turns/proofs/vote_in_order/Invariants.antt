-- `turns::vote_in_order` meets its contract. The invariant: the first j were voted on, and the rest decides. Assumes nothing.
use Rattle.turns.proofs.Ballots.{Voted}
use Prim.Native.Nat.{◌-◌}
use Rattle.turns.proofs.vote_in_order.Given as goal

abbrev pub invariant-loop-j : goal.invariant-loop-j
invariant-loop-j l =
    Voted l.initial.store l.order l.initial.out l.at l.count l.j l.store l.out l.next
