-- `words::against` meets its contract. Assumes nothing.
use mathlib.Core.Option.{none}
use Rattle.wire.specs.Meaning.{statement_of}
use Rattle.words.proofs.Statements.{against_new_view, against_level, against_above}
use Rattle.words.proofs.against.Goals as goal

pub returns-then-x : goal.returns-then-x
unfolding statement_of
returns-then-x c =
    let a = c.args in
    against_new_view (statement_of a.x none) (statement_of a.y none) c.if-x.true

pub returns-then-x-y : goal.returns-then-x-y
unfolding statement_of
returns-then-x-y c =
    let a = c.args in
    rw c.ne.ensures (against_level (statement_of a.x none) (statement_of a.y none) c.if-x.false c.if-x-y.true)

pub returns : goal.returns
unfolding statement_of
returns c =
    let a = c.args in
    rw c.ne-2.ensures (against_above (statement_of a.x none) (statement_of a.y none) c.if-x.false c.if-x-y.false)
