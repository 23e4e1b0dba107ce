-- `lines::spoken` meets its contract. Assumes nothing.
use Rattle.lines.proofs.Replies.{refused, too_long, spoken_good}
use mathlib.Core.Path.{sym}
use native.Mathlib.Omega.{arith}
use Rattle.lines.proofs.spoken.Goals as goal

pub returns-in_err-message : goal.returns-in_err-message
returns-in_err-message c = refused _ c.from_residual.ensures (sym c.in_err-message.ensures.0)

pub returns-then-bytes-size : goal.returns-then-bytes-size
returns-then-bytes-size c = too_long _ _ _ _ (sym c.in_ok-message.ensures.0) (omega (arith, c.size.ensures))

pub write_message-len-requires : goal.write_message-len-requires
write_message-len-requires c = (c.in_ok-message.ensures.1, omega (arith, c.size.ensures))

pub returns : goal.returns
returns c =
    spoken_good _ _ _ (sym c.in_ok-message.ensures.0) (omega (arith, c.size.ensures)) _ _ c.write_message-len.ensures
