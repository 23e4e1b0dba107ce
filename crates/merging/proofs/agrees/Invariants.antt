-- `merging::agrees` meets its contract. The invariant: the names below height k agree as far as they are asked for. Assumes nothing.
use Rattle.glance.specs.Tables.{name_in}
use Rattle.merging.specs.Joins.{name_so_far}
use mathlib.Core.Path.{◌≡◌}
use Prim.Native.Nat.{ℕ, ◌<◌}
use Rattle.merging.proofs.agrees.Given as goal

abbrev pub invariant-loop-k : goal.invariant-loop-k
invariant-loop-k l =
    (j : ℕ) → j < l.k → j < l.end → name_in l.store l.chain j ≡ name_so_far l.store l.gained j
