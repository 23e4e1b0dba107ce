-- `plain_words::against` meets its contract. Assumes nothing.
use Rattle.wire.specs.Meaning.{statement_of}
use Rattle.rules.specs.Words.{against}
use Rattle.plain_words.proofs.against.Goals as goal

pub returns-then-x : goal.returns-then-x
unfolding against statement_of
returns-then-x c =
    rw c.if-x.true

pub returns : goal.returns
unfolding against statement_of
returns c =
    rw (c.if-x.false, c.ne.ensures, c.ne-2.ensures, c.from.ensures, c.from-2.ensures)
