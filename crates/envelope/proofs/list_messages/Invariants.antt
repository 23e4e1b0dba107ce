-- `envelope::list_messages` meets its contract: what is left of the items, and of the list. Assumes nothing.
use Prim.Native.Nat.{◌-◌}
use lib.ListN.{length}
use Rattle.envelope.proofs.Listing.{Left}
use Rattle.envelope.proofs.list_messages.Given as goal

abbrev pub invariant-loop-at : goal.invariant-loop-at
invariant-loop-at l = Left l.s l.initial.list l.at l.to l.list

abbrev pub decreases-loop-at : goal.decreases-loop-at
decreases-loop-at l = length l.s - l.at
