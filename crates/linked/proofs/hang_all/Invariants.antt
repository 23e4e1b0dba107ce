-- `linked::hang_all` meets its contract. Assumes nothing.
use Prim.Native.Nat.{◌≤◌}
use Rattle.chains.specs.Chains.{Chained}
use Rattle.linked.specs.Links.{height_chain}
use Rattle.linked.proofs.hang_all.Given as goal

abbrev pub invariant-loop-i : goal.invariant-loop-i
invariant-loop-i l =
    (l.i ≤ l.count) × Chained (height_chain l.store) l.i l.count l.hung.heads l.hung.nexts
