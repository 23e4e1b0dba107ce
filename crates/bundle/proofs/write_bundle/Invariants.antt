-- `bundle::write_bundle` meets its contract: what is left of the messages, and of their items. Assumes nothing.
use Prim.Native.Nat.{◌/◌, ◌≤◌}
use mathlib.Core.Path.{◌≡◌}
use lib.ListN.{length}
use Rattle.bundle.proofs.Written.{Left}
use Rattle.bundle.proofs.write_bundle.Given as goal

abbrev pub invariant-loop-k : goal.invariant-loop-k
invariant-loop-k l =
    (l.k ≤ l.count) × (l.count ≡ length l.list / 8) × Left l.bytes l.list l.initial.out l.count l.at l.k l.out
