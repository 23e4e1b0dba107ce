-- `slip_writer::write_chain` meets its contract. The invariant: what is written and what is left make the chain. Assumes nothing.
use Prim.Native.Nat.{◌+◌, ◌*◌, ◌≤◌}
use lib.ListN.{length}
use Rattle.slip_writer.proofs.Chains.{SoFar}
use Rattle.slip_writer.proofs.write_chain.Given as goal

abbrev pub invariant-loop-below : goal.invariant-loop-below
invariant-loop-below l =
    (l.below ≤ l.height) × (l.next + 100 * l.below ≤ length l.initial.out) × SoFar l.store l.height l.initial.out l.at l.below l.out l.next
