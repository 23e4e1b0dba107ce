-- `words::below_lock` meets its contract. Assumes nothing.
use mathlib.Core.Path.{◌∙◌}
use mathlib.Core.Option.{none}
use Rattle.wire.specs.Meaning.{statement_of}
use Rattle.words.specs.Meaning.{block_of}
use Rattle.words.proofs.Statements.{lock_propose, lock_new_view}
use Rattle.words.proofs.below_lock.Goals as goal

pub returns-then-x : goal.returns-then-x
unfolding statement_of
returns-then-x c =
    let a = c.args in
    c.below.ensures ∙ lock_new_view (statement_of a.x none) (block_of a.lock) (block_of c.certificate_of.result) c.if-x.true c.certificate_of.ensures

pub returns : goal.returns
unfolding statement_of
returns c =
    lock_propose (statement_of c.args.x none) (block_of c.args.lock) c.if-x.false
