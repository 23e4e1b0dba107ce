-- `join_tally` meets its contract: what is searched for is found, and joined. Assumes nothing.
use Rattle.words.specs.Meaning.{block_of}
use Rattle.joining.proofs.join_tally.Goals as goal

pub join_found-requires : goal.join_found-requires
unfolding block_of
join_found-requires c =
    (c.requires.0, c.requires.1, c.find_tally-place.ensures, c.requires.2, tt)

pub returns : goal.returns
unfolding block_of
returns c = c.join_found.ensures.left
