-- `certificates::highest` meets its contract: the highest of what was passed is known. Assumes nothing.
use Rattle.store.specs.Decode.{rows, tally_at, state_of}
use Rattle.store.specs.Layout.{tally_table, count_of}
use Rattle.words.specs.Meaning.{block_of}
use Rattle.rules.specs.Words as words
use mathlib.Core.Path.{◌≡◌}
use Prim.Native.Nat.{◌-◌, ◌≤◌}
use Rattle.certificates.proofs.highest.Given as goal

abbrev pub invariant-loop-i : goal.invariant-loop-i
invariant-loop-i l =
    (l.i ≤ count_of tally_table l.store) × (block_of l.best ≡ words.highest (state_of l.store).settings l.view (rows (tally_at l.store) l.i (count_of tally_table l.store - l.i)))
