-- `fields::clear` meets its contract: zeros go into the bytes that are left. Assumes nothing.
use Prim.Native.Nat.{◌≤◌}
use mathlib.Core.Path.{◌≡◌}
use lib.ListN.{length}
use Rattle.fields.specs.Places.{put}
use Rattle.fields.proofs.clear.Given as goal

abbrev pub invariant-loop-k : goal.invariant-loop-k
invariant-loop-k l = (l.k ≤ l.width) × (put l.s l.at l.k 0 ≡ put l.initial.s l.at l.width 0) × (length l.s ≡ length l.initial.s)

abbrev pub decreases-loop-k : goal.decreases-loop-k
decreases-loop-k l = l.k
