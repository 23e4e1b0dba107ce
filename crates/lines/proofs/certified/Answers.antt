-- `lines::certified` meets its contract. Assumes nothing.
use Rattle.parts.proofs.Fields.{before}
use Rattle.lines.proofs.Replies.{refused, reads_as, certified_is, certified_wrong}
use Rattle.lines.proofs.certified.Goals as goal

pub returns-in_err-view : goal.returns-in_err-view
returns-in_err-view c = refused _ c.from_residual.ensures (certified_wrong _ _ (c.in_err-view.ensures _))

pub returns-in_err-height : goal.returns-in_err-height
returns-in_err-height c =
    refused _ c.from_residual-in_err-height.ensures (certified_wrong _ _ (before c.in_ok-view.ensures _ _ (c.in_err-height.ensures _)))

pub returns-in_err-name : goal.returns-in_err-name
returns-in_err-name c =
    refused _ c.from_residual-in_err-name.ensures
    (certified_wrong _ _ (before c.in_ok-view.ensures _ _ (before c.in_ok-height.ensures _ _ (c.in_err-name.ensures _))))

pub returns : goal.returns
returns c =
    reads_as _ _ _ _ _ (certified_is c.in_ok-view.ensures c.in_ok-height.ensures c.in_ok-name.ensures) c.named.ensures
