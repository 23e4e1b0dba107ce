-- `search::top` meets its contract: the top of what was passed is known, with its height. Assumes nothing.
use Prim.Native.Nat.{◌≤◌}
use Rattle.store.specs.Layout.{statement_table, count_of}
use Rattle.store.specs.Decode.{statement_at}
use Rattle.search.proofs.Tops.{Topmost}
use Rattle.search.proofs.top.Given as goal

abbrev pub invariant-loop-i : goal.invariant-loop-i
invariant-loop-i l =
    (l.i ≤ count_of statement_table l.store) × Topmost (statement_at l.store) l.view (count_of statement_table l.store) l.i l.best l.height
