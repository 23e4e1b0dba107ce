-- `plain_chains::commits` meets its contract: what is left of the due ones joins the log as it then stands. Assumes nothing.
use Prim.Native.Nat.{◌≤◌}
use mathlib.Core.Path.{◌≡◌}
use lib.ListN.{drop}
use Rattle.rules.specs.Inputs.{commits}
use Rattle.plain_words.specs.Places.{firsts, Within}
use Rattle.plain_tables.specs.Meaning as tables
use Rattle.plain_tables.specs.Meaning.{room}
use Rattle.plain_statements.specs.Meaning.{held_of, statements}
use Rattle.plain_chains.proofs.commits.Given as goal

abbrev pub invariant-loop-i : goal.invariant-loop-i
invariant-loop-i l =
    (Within room l.names.items l.names.count)
    × (commits (statements l.xs) (statements l.due) (tables.names l.initial.names) ≡ commits (statements l.xs) (drop l.i (firsts held_of l.due.items l.due.count)) (tables.names l.names))
