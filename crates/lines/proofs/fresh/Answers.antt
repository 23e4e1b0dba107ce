-- `lines::fresh` meets its contract. Assumes nothing.
use Rattle.parts.proofs.Fields.{before}
use Rattle.lines.proofs.Replies.{nothing_refused, nothing_fresh, fresh_good, fresh_wrong}
use Rattle.lines.proofs.fresh.Goals as goal

pub returns-in_err-n : goal.returns-in_err-n
returns-in_err-n c = nothing_refused _ c.from_residual.ensures (fresh_wrong _ _ (c.in_err-n.ensures _))

pub returns-in_err-delay : goal.returns-in_err-delay
returns-in_err-delay c =
    nothing_refused _ c.from_residual-in_err-delay.ensures (fresh_wrong _ _ (before c.in_ok-n.ensures _ _ (c.in_err-delay.ensures _)))

pub returns-in_err-own : goal.returns-in_err-own
returns-in_err-own c =
    nothing_refused _ c.from_residual-in_err-own.ensures
    (fresh_wrong _ _ (before c.in_ok-n.ensures _ _ (before c.in_ok-delay.ensures _ _ (c.in_err-own.ensures _))))

pub returns-in_err-ending : goal.returns-in_err-ending
returns-in_err-ending c =
    nothing_refused _ c.from_residual-in_err-ending.ensures
    (fresh_wrong _ _ (before c.in_ok-n.ensures _ _ (before c.in_ok-delay.ensures _ _ (before c.in_ok-own.ensures _ _ c.in_err-ending.ensures))))

pub returns : goal.returns
returns c =
    nothing_fresh _ _ _ _ (fresh_good c.in_ok-n.ensures c.in_ok-delay.ensures c.in_ok-own.ensures c.in_ok-ending.ensures)
