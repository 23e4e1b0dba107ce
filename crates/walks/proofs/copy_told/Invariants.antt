-- `walks::copy_told` meets its contract. The invariant: the places below k are copied. Assumes nothing.
use Rattle.walks.specs.Chains.{Lowered}
use lib.ListN.{length}
use mathlib.Core.Path.{◌≡◌}
use Prim.Native.Nat.{◌≤◌}
use Rattle.walks.proofs.copy_told.Given as goal

abbrev pub invariant-loop-k : goal.invariant-loop-k
invariant-loop-k l =
    (l.k ≤ l.end) × (length l.to ≡ length l.initial.to) × Lowered l.told l.initial.to l.to l.k
