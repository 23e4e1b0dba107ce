-- `put_tally` meets its contract: the certificate's numbers, who opened the tally, and when it first had a quorum. Assumes nothing.
use Rattle.words.specs.Meaning.{block_of}
use Rattle.tallies.specs.Meaning.{tally_of}
use Rattle.joining.proofs.put_tally.Goals as goal

pub returns : goal.returns
unfolding tally_of block_of
returns c =
    rw (c.put-2.ensures, c.put.ensures, c.put_certificate.ensures, c.opener_number.ensures, c.reached_number.ensures)
