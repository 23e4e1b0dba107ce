-- `bundle::total_of` meets its contract: the bytes so far, and those of the messages that are left. Assumes nothing.
use Prim.Native.Nat.{◌-◌, ◌/◌, ◌≤◌}
use mathlib.Core.Path.{◌≡◌}
use lib.ListN.{length}
use Rattle.items.specs.Reading.{most_bytes}
use Rattle.bundle.specs.Writing.{places_from, gathered, bundled}
use Rattle.bundle.specs.Meaning.{total_of}
use Rattle.bundle.proofs.Totals.{weighed}
use Rattle.bundle.proofs.total_of.Given as goal

abbrev pub invariant-loop-k : goal.invariant-loop-k
invariant-loop-k l =
    (l.k ≤ l.count) × (l.count ≡ length l.list / 8) × (l.total ≤ most_bytes) × (weighed l.total (gathered l.bytes (places_from l.list l.k (l.count - l.k))) ≡ total_of (bundled l.bytes l.list))
