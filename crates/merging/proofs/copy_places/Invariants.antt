-- `merging::copy_places` meets its contract. The invariant: the places from `start` up to k are copied. Assumes nothing.
use Rattle.merging.specs.Joins.{Copied}
use lib.ListN.{length}
use mathlib.Core.Path.{◌≡◌}
use Prim.Native.Nat.{◌≤◌}
use Rattle.merging.proofs.copy_places.Given as goal

abbrev pub invariant-loop-k : goal.invariant-loop-k
invariant-loop-k l =
    (l.start ≤ l.k) × (length l.to ≡ length l.initial.to) × Copied l.from l.initial.to l.to l.start l.k
