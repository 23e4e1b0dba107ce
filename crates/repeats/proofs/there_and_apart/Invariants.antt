-- `repeats::there_and_apart` meets its contract. Assumes nothing.
use Rattle.backed.specs.Backed.{Found}
use Rattle.repeats.specs.Repeats.{statement_chain}
use Rattle.chains.specs.Chains.{Chained}
use Rattle.store.specs.Decode.{rows, statement_at, tallies}
use Rattle.rules.specs.WellFormed.{tallies_there}
use Rattle.rules.specs.Words.{same_statement}
use Rattle.rules.specs.Lists.{all, distinct}
use mathlib.Core.Bool.{true}
use mathlib.Core.Path.{◌≡◌}
use Prim.Native.Nat.{◌-◌, ◌≤◌}
use Rattle.repeats.proofs.there_and_apart.Given as goal

abbrev pub invariant-loop-i : goal.invariant-loop-i
invariant-loop-i l =
    (l.i ≤ l.stored) × Chained (statement_chain l.store l.salt) l.i l.stored l.hung.heads l.hung.nexts × (distinct same_statement (rows (statement_at l.store) l.i (l.stored - l.i)) ≡ true)
    × (all (tallies_there (tallies l.store)) (rows (statement_at l.store) l.i (l.stored - l.i)) ≡ true) × Found l.store l.salt l.after.key l.after.at l.after.mixed
