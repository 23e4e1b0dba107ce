-- `search::find_pair` meets its contract, the rest of the table deciding. Assumes nothing.
use Prim.Native.Nat.{◌-◌}
use mathlib.Core.Path.{◌≡◌}
use Rattle.rules.specs.Inputs.{pair}
use Rattle.store.specs.Layout.{statement_table, count_of}
use Rattle.store.specs.Decode.{rows, statement_at, statements}
use Rattle.search.specs.Lookups.{of_view}
use Rattle.search.proofs.find_pair.Given as goal

abbrev pub invariant-loop-i : goal.invariant-loop-i
invariant-loop-i l =
    pair (of_view l.view (statements l.store)) ≡ pair (of_view l.view (rows (statement_at l.store) l.i (count_of statement_table l.store - l.i)))
