-- `put_certificate` meets its contract: the block is put, then the mask. Assumes nothing.
use Rattle.words.specs.Meaning.{block_of}
use Rattle.records.proofs.put_certificate.Goals as goal

pub returns : goal.returns
unfolding block_of
returns c =
    rw (c.put.ensures, c.put_block.ensures)
