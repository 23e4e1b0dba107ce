-- `parent_at` meets its contract: nothing there, the block asked for and allowed, or not. Assumes nothing.
use mathlib.Core.Path.{sym, ap, ◌∙◌}
use Rattle.wire.specs.Meaning.{statement_of}
use Rattle.slip_entries.specs.Meaning.{entry_of}
use Rattle.slip_entries.proofs.Parents.{parent_unread, parent_here, parent_other}
use Rattle.slip_entries.proofs.parent_at.Goals as goal

pub returns-in_err-x : goal.returns-in_err-x
returns-in_err-x c =
    rw c.from_residual.ensures (parent_unread _ _ _ (sym c.entry_at.ensures ∙ ap entry_of c.in_err-x.was))

pub returns-then-asked-statement_allowed : goal.returns-then-asked-statement_allowed
unfolding statement_of
returns-then-asked-statement_allowed c =
    let entry_at = c.entry_at in let same = c.eq in
    parent_here _ _ _ (sym entry_at.ensures ∙ ap entry_of c.in_ok-x.was) same.ensures c.statement_allowed.ensures c.if-asked-statement_allowed.true

pub returns : goal.returns
unfolding statement_of
returns c =
    let entry_at = c.entry_at in let same = c.eq in
    parent_other _ _ _ (sym entry_at.ensures ∙ ap entry_of c.in_ok-x.was) same.ensures c.statement_allowed.ensures c.if-asked-statement_allowed.false
