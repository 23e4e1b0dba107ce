-- `search::conflicts_at` meets its contract. Assumes nothing.
use mathlib.Core.Path.{◌∙◌, sym}
use mathlib.Core.Option.{none}
use Rattle.wire.specs.Meaning.{statement_of}
use Rattle.words.proofs.Statements.{other_view}
use Rattle.store.specs.Decode.{statement_at}
use Rattle.search.proofs.Statements.{read_conflict}
use Rattle.search.proofs.conflicts_at.Goals as goal

pub returns-then-x-view_at : goal.returns-then-x-view_at
unfolding statement_of
returns-then-x-view_at c =
    let a = c.args in
    other_view (statement_of a.x.now none) (statement_at a.store.now a.i) (λ e. c.if-x-view_at.true (e ∙ sym c.view_at.ensures))

pub returns : goal.returns
returns c =
    let a = c.args in
    c.conflicts.ensures ∙ read_conflict c.statement_at.result (statement_at a.store.now a.i) c.statement_at.ensures a.x.now
