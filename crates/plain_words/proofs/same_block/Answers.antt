-- `plain_words::same_block_lem` meets its contract. Assumes nothing.
use Rattle.plain_words.specs.Meaning.{certificate_of}
use Rattle.rules.specs.Words.{same_block}
use Rattle.plain_words.proofs.same_block.Goals as goal

pub returns : goal.returns
unfolding certificate_of same_block
returns c =
    rw c.eq.ensures
