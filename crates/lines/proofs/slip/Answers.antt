-- `lines::slip` meets its contract. Assumes nothing.
use Rattle.lines.proofs.Replies.{refused, reads_as, slip_is, slip_wrong}
use Rattle.lines.proofs.slip.Goals as goal

pub returns-in_err-name : goal.returns-in_err-name
returns-in_err-name c = refused _ c.from_residual.ensures (slip_wrong _ _ (c.in_err-name.ensures _))

pub returns : goal.returns
returns c = reads_as _ _ _ _ _ (slip_is c.in_ok-name.ensures) c.named.ensures
