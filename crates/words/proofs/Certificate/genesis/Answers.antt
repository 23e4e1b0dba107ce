-- `words::Certificate::genesis` meets its contract. Assumes nothing.
use Rattle.words.specs.Meaning.{block_of}
use Rattle.words.proofs.Certificate.genesis.Goals as goal

pub returns : goal.returns
unfolding block_of
returns c = rw c.zero-name.ensures
