-- `plain_words::genesis` meets its contract. Assumes nothing.
use Rattle.plain_words.specs.Meaning.{certificate_of}
use Rattle.plain_words.proofs.genesis.Goals as goal

pub returns : goal.returns
unfolding certificate_of
returns c =
    rw c.zero.ensures
