-- `plain_names::write_log` meets its contract. Assumes nothing.
use Prim.Native.Nat.{◌*◌, ◌≤◌}
use mathlib.Core.Path.{◌≡◌}
use lib.ListN.{length, drop}
use Rattle.outgoing.specs.Wrote.{wrote}
use Rattle.lent_list.specs.Plain.{log_bytes}
use Rattle.plain_tables.specs.Meaning.{names}
use Rattle.plain_names.proofs.write_log.Given as goal

abbrev pub invariant-loop-k : goal.invariant-loop-k
invariant-loop-k l =
    (l.k ≤ l.n) × (l.n ≡ l.log.count) × (length l.out ≡ length l.initial.out) × (wrote l.out (32 * l.k) (log_bytes (drop l.k (names l.log))) ≡ wrote l.initial.out 0 (log_bytes (names l.log)))
