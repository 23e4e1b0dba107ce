-- `get_certificate` meets its contract: each field is the number at its place of the record. Assumes nothing.
use Rattle.words.specs.Meaning.{block_of}
use Rattle.store.proofs.get_certificate.Goals as goal

pub returns : goal.returns
unfolding block_of
returns c =
    rw (c.get_four-view.ensures, c.get_four-height.ensures, c.get_name-name.ensures.0, c.get_two-mask.ensures)
