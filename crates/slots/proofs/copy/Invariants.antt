-- `slots::copy` meets its contract: what is left of the input goes into the bytes behind those written. Assumes nothing.
use Prim.Native.Nat.{◌+◌}
use mathlib.Core.Path.{◌≡◌}
use lib.ListN.{length, drop}
use Rattle.outgoing.specs.Wrote.{wrote}
use Rattle.slots.proofs.copy.Given as goal

abbrev pub invariant-loop-k : goal.invariant-loop-k
invariant-loop-k l =
    (wrote l.slot (l.at + l.k) (drop l.k l.input) ≡ wrote l.initial.slot l.at l.input) × (length l.slot ≡ length l.initial.slot)
