-- `words::conflicts` meets its contract. Assumes nothing.
use mathlib.Core.Path.{◌∙◌, ap}
use mathlib.Core.Bool.{not}
use mathlib.Core.Option.{none}
use Rattle.wire.specs.Meaning.{statement_of}
use Rattle.words.proofs.Statements.{other_view, new_views, unless_new_views}
use Rattle.words.proofs.conflicts.Goals as goal

pub returns-then-x-y : goal.returns-then-x-y
unfolding statement_of
returns-then-x-y c =
    let a = c.args in
    other_view (statement_of a.x none) (statement_of a.y none) c.if-x-y.true

pub returns-then-x-y-2 : goal.returns-then-x-y-2
unfolding statement_of
returns-then-x-y-2 c =
    let a = c.args in
    ap not c.same.ensures ∙ new_views (statement_of a.x none) (statement_of a.y none) c.if-x-y.false c.if-x-y-2.true

pub returns : goal.returns
unfolding statement_of
returns c =
    let a = c.args in
    rw (c.against.ensures, c.against-2.ensures) (unless_new_views (statement_of a.x none) (statement_of a.y none) c.if-x-y.false c.if-x-y-2.false)
