-- `plain_tallies::grown` meets its contract. Assumes nothing.
use Rattle.rules.specs.Words as words
use Rattle.rules.specs.Sizes.{joined}
use Rattle.plain_tallies.specs.Meaning.{tally_of}
use Rattle.plain_tallies.proofs.grown.Goals as goal

pub returns : goal.returns
unfolding tally_of words.grown joined
returns c =
    rw c.reached_at-t.ensures
