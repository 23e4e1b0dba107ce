-- `plain_tallies::is_of_block` meets its contract. Assumes nothing.
use Rattle.plain_tallies.proofs.is_of_block.Goals as goal

pub returns : goal.returns
returns c = rw (c.same_block.ensures, c.certificate_of.ensures)
