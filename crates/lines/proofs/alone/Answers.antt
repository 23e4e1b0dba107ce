-- `lines::alone` meets its contract. Assumes nothing.
use Rattle.lines.proofs.Replies.{nothing_refused, alone_good, alone_wrong}
use Rattle.lines.proofs.alone.Goals as goal

pub returns-in_err-ending : goal.returns-in_err-ending
returns-in_err-ending c = λ m w. nothing_refused _ c.from_residual.ensures (alone_wrong m _ _ c.in_err-ending.ensures)

pub returns : goal.returns
returns c = λ m w. rw (alone_good m _ c.in_ok-ending.ensures) w
