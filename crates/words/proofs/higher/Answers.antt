-- `words::higher` meets its contract. Assumes nothing.
use mathlib.Core.Path.{◌∙◌}
use Rattle.fields.proofs.Names.{is_before}
use Rattle.words.specs.Meaning.{block_of}
use Rattle.words.proofs.Ranks.{higher_view, higher_height, higher_name}
use Rattle.words.proofs.higher.Goals as goal

pub returns-then-a-b : goal.returns-then-a-b
unfolding block_of
returns-then-a-b c =
    let a = c.args in
    higher_view (block_of a.a) (block_of a.b) c.if-a-b.true

pub returns-then-a-b-2 : goal.returns-then-a-b-2
unfolding block_of
returns-then-a-b-2 c =
    let a = c.args in
    higher_height (block_of a.a) (block_of a.b) c.if-a-b.false c.if-a-b-2.true

pub returns : goal.returns
unfolding block_of
returns c =
    let a = c.args in
    c.lt.ensures ∙ is_before _ _ ∙ higher_name (block_of a.a) (block_of a.b) c.if-a-b.false c.if-a-b-2.false
