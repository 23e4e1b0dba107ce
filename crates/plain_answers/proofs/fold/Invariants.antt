-- `plain_answers::fold` meets its contract. Assumes nothing.
use Prim.Native.Nat.{◌-◌, ◌≤◌}
use mathlib.Core.Path.{◌≡◌}
use lib.ListN.{length}
use Rattle.rules.specs.Limits.{least_out_small}
use Rattle.lent_list.specs.Lists.{slots_in, inputs_after}
use Rattle.lent_list.specs.Plain.{folded, held}
use Rattle.plain_tables.specs.Meaning.{state}
use Rattle.plain_messages.specs.Whole.{Whole}
use Rattle.plain_answers.proofs.fold.Given as goal

abbrev pub invariant-loop-place : goal.invariant-loop-place
invariant-loop-place l =
    (l.count ≡ slots_in l.list) × (length l.out ≡ least_out_small) × Whole l.engine × (folded (state l.engine) (inputs_after l.list l.place) ≡ held l.list)
