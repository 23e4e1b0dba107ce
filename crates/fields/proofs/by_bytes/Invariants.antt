-- `fields::by_bytes` meets its contract: after k turns the value is the number of the first k bytes. Assumes nothing.
use Prim.Native.Nat.{◌≤◌, ◌<◌, ◌-◌, ◌^◌}
use mathlib.Core.Path.{◌≡◌}
use Rattle.fields.specs.Places.{number}
use Rattle.fields.proofs.by_bytes.Given as goal

abbrev pub invariant-loop-k : goal.invariant-loop-k
invariant-loop-k l = (l.k ≤ l.width) × (l.value ≡ number l.s l.at l.k) × (l.value < 256 ^ l.k)

abbrev pub decreases-loop-k : goal.decreases-loop-k
decreases-loop-k l = l.width - l.k
