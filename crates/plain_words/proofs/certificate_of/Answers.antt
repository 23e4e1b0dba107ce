-- `plain_words::certificate_of` meets its contract. Assumes nothing.
use Rattle.wire.specs.Meaning.{statement_of}
use Rattle.plain_words.specs.Meaning.{certificate_of}
use Rattle.rules.specs.Words.{certificate}
use Rattle.plain_words.proofs.Statements.{link_view, link_small}
use Rattle.plain_words.proofs.certificate_of.Goals as goal

pub overflow_cast-result : goal.overflow_cast-result
overflow_cast-result c =
    record { fits = link_small c.args.x c.requires c.if-x.true }

pub returns-then-x : goal.returns-then-x
unfolding certificate_of certificate statement_of
returns-then-x c =
    rw (c.if-x.true, link_view c.args.x c.requires c.if-x.true)

pub overflow_sub-result : goal.overflow_sub-result
unfolding statement_of
overflow_sub-result c =
    c.requires.above c.if-x.false

pub returns : goal.returns
unfolding certificate_of certificate statement_of
returns c =
    rw c.if-x.false
