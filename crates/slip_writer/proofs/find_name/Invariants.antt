-- `slip_writer::find_name` meets its contract: what is left to search answers as the whole does. Assumes nothing.
use Prim.Native.Nat.{◌-◌, ◌≤◌}
use mathlib.Core.Path.{◌≡◌}
use lib.Dec.{eqb}
use Rattle.fields.specs.Names.{name_of}
use Rattle.store.specs.Decode.{rows, name_at, names}
use Rattle.store.specs.Searches.{first_from}
use Rattle.slip_writer.proofs.find_name.Given as goal

abbrev pub invariant-loop-i : goal.invariant-loop-i
invariant-loop-i l =
    (l.i ≤ l.logged) × (first_from (eqb (name_of l.name)) 0 (names l.store) ≡ first_from (eqb (name_of l.name)) l.i (rows (name_at l.store) l.i (l.logged - l.i)))
