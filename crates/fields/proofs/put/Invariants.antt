-- `fields::put` meets its contract: what is left of the value goes into the bytes that are left. Assumes nothing.
use Prim.Native.Nat.{◌≤◌}
use mathlib.Core.Path.{◌≡◌}
use lib.ListN.{length}
use Rattle.fields.specs.Places.{put}
use Rattle.fields.proofs.put.Given as goal

abbrev pub invariant-loop-k : goal.invariant-loop-k
invariant-loop-k l = (l.k ≤ l.width) × (put l.s l.at l.k l.left ≡ put l.initial.s l.at l.width l.value) × (length l.s ≡ length l.initial.s)

abbrev pub decreases-loop-k : goal.decreases-loop-k
decreases-loop-k l = l.k
