-- `words::certificate_of` meets its contract. Assumes nothing.
use Rattle.rules.specs.Words.{certificate}
use Rattle.wire.specs.Meaning.{statement_of}
use Rattle.words.specs.Meaning.{block_of}
use Rattle.words.proofs.Statements.{certified_view, certified_small}
use Rattle.words.proofs.certificate_of.Goals as goal

pub overflow_cast-result : goal.overflow_cast-result
overflow_cast-result c =
    record { fits = certified_small c.args.x c.requires c.if-x.true }

pub returns-then-x : goal.returns-then-x
unfolding block_of certificate statement_of
returns-then-x c =
    rw (c.if-x.true, certified_view c.args.x c.requires c.if-x.true)

pub overflow_sub-result : goal.overflow_sub-result
unfolding statement_of
overflow_sub-result c =
    c.requires.above c.if-x.false

pub returns : goal.returns
unfolding block_of certificate statement_of
returns c =
    rw c.if-x.false
