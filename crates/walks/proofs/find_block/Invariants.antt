-- `walks::find_block` meets its contract. The invariant: no place below i matches. Assumes nothing.
use Rattle.store.specs.Searches.{first_from}
use Rattle.store.specs.Decode.{rows, statements, statement_at}
use Rattle.fields.specs.Names.{name_of}
use Rattle.rules.specs.Inputs.{is_block}
use mathlib.Core.Path.{◌≡◌}
use Prim.Native.Nat.{◌≤◌, ◌-◌}
use Rattle.walks.proofs.find_block.Given as goal

abbrev pub invariant-loop-i : goal.invariant-loop-i
invariant-loop-i l =
    (l.i ≤ l.count) × (first_from (is_block l.height (name_of l.name)) 0 (statements l.store) ≡ first_from (is_block l.height (name_of l.name)) l.i (rows (statement_at l.store) l.i (l.count - l.i)))
