-- `walks::walk` meets its contract. The invariant: the blocks above height k - 1 are in the table, and the chain of each goes on with `link`
-- at height k. Assumes nothing.
use Prim.Native.Nat.{◌-◌}
use Rattle.fields.specs.Names.{name_of}
use Rattle.walks.proofs.Walks.{Walking}
use Rattle.walks.proofs.walk.Given as goal

abbrev pub invariant-loop-k : goal.invariant-loop-k
invariant-loop-k l =
    Walking l.store l.chain l.i l.height (l.k - 1) (name_of l.link)
