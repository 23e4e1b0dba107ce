-- `slip_writer::find_link` meets its contract: what is left to search answers as the whole does. Assumes nothing.
use Prim.Native.Nat.{◌-◌, ◌≤◌}
use mathlib.Core.Path.{◌≡◌}
use Rattle.fields.specs.Names.{name_of}
use Rattle.store.specs.Decode.{rows, statement_at, statements}
use Rattle.store.specs.Searches.{first_from}
use Rattle.linked.specs.Links.{is_link}
use Rattle.slip_writer.proofs.find_link.Given as goal

abbrev pub invariant-loop-i : goal.invariant-loop-i
invariant-loop-i l =
    (l.i ≤ l.stored)
    × (first_from (is_link l.height (name_of l.name) (name_of l.parent)) 0 (statements l.store) ≡ first_from (is_link l.height (name_of l.name) (name_of l.parent)) l.i (rows (statement_at l.store) l.i (l.stored - l.i)))
