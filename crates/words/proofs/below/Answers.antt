-- `words::below` meets its contract. Assumes nothing.
use Rattle.words.specs.Meaning.{block_of}
use Rattle.words.proofs.Ranks.{rank_view, rank_height}
use Rattle.words.proofs.below.Goals as goal

pub returns-then-a-b : goal.returns-then-a-b
unfolding block_of
returns-then-a-b c =
    let a = c.args in
    rank_view (block_of a.a) (block_of a.b) c.if-a-b.true

pub returns : goal.returns
unfolding block_of
returns c =
    let a = c.args in
    rank_height (block_of a.a) (block_of a.b) c.if-a-b.false
