-- `storing::needed` meets its contract. Assumes nothing.
use Rattle.storing.proofs.Records.{needed_genesis, needed_none, needed_one}
use Rattle.words.specs.Meaning.{block_of}
use Rattle.storing.proofs.needed.Goals as goal

pub returns-then-block-eq0 : goal.returns-then-block-eq0
unfolding block_of
returns-then-block-eq0 c =
    let a = c.args in
    needed_genesis (block_of a.block) a.place c.if-block-eq0.true

pub returns-in-Some : goal.returns-in-Some
unfolding block_of
returns-in-Some c =
    let a = c.args in
    needed_none (block_of a.block) a.place c.if-block-eq0.false _ c.in-Some.is

pub returns-in-None : goal.returns-in-None
unfolding block_of
returns-in-None c =
    let a = c.args in
    needed_one (block_of a.block) a.place c.if-block-eq0.false c.in-None.is
