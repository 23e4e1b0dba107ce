-- `certificates::opened_by` meets its contract. Assumes nothing.
use Prim.Native.Nat.{◌-◌, ◌≤◌}
use mathlib.Core.Path.{◌≡◌}
use Rattle.rules.specs.Words.{opened_by}
use Rattle.store.specs.Layout.{tally_table, count_of}
use Rattle.store.specs.Decode.{rows, tally_at}
use Rattle.certificates.proofs.opened_by.Given as goal

abbrev pub invariant-loop-i : goal.invariant-loop-i
invariant-loop-i l =
    (l.i ≤ count_of tally_table l.store) × (l.opened ≡ opened_by l.author (rows (tally_at l.store) l.i (count_of tally_table l.store - l.i)))
