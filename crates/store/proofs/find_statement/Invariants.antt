-- `find_statement` meets its contract: what is left to search answers as the whole does. Assumes nothing.
use Rattle.store.specs.Searches.{first_from}
use Rattle.store.specs.Decode.{rows, statement_at, statements}
use Rattle.store.specs.Layout.{count_of, statement_table}
use Rattle.wire.specs.Meaning.{statement_of}
use Rattle.rules.specs.Words.{same_statement}
use mathlib.Core.Option.{none}
use mathlib.Core.Path.{◌≡◌}
use Prim.Native.Nat.{◌≤◌, ◌-◌}
use Rattle.store.proofs.find_statement.Given as goal

abbrev pub invariant-loop-i : goal.invariant-loop-i
invariant-loop-i l =
    (l.i ≤ l.count) × (l.count ≡ count_of statement_table l.store)
    × (first_from (same_statement (statement_of l.statement none)) 0 (statements l.store) ≡ first_from (same_statement (statement_of l.statement none)) l.i (rows (statement_at l.store) l.i (l.count - l.i)))

abbrev pub decreases-loop-i : goal.decreases-loop-i
decreases-loop-i l =
    l.count - l.i
