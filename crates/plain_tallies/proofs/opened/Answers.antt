-- `plain_tallies::opened` meets its contract. Assumes nothing.
use Rattle.plain_words.specs.Meaning.{certificate_of}
use Rattle.plain_tallies.specs.Meaning.{tally_of}
use Rattle.plain_tallies.proofs.opened.Goals as goal

pub returns : goal.returns
unfolding tally_of certificate_of
returns c =
    rw c.reached_at.ensures
