-- `plain_pairs::pair` meets its contract: none so far of which the earlier was met. Assumes nothing.
use mathlib.Core.Path.{◌≡◌}
use lib.ListN.{drop}
use Rattle.rules.specs.Inputs as inputs
use Rattle.plain_words.specs.Places.{firsts}
use Rattle.plain_statements.specs.Meaning.{held_of}
use Rattle.plain_pairs.proofs.pair.Given as goal

abbrev pub invariant-loop-i : goal.invariant-loop-i
invariant-loop-i l =
    inputs.pair (firsts held_of l.xs.items l.xs.count) ≡ inputs.pair (drop l.i (firsts held_of l.xs.items l.xs.count))
