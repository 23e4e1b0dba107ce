-- `lines::last_hex` meets its contract. Assumes nothing.
use Rattle.parts.proofs.Fields.{gives}
use Rattle.lines.proofs.Replies.{hex_good, hex_more}
use Rattle.lines.proofs.last_hex.Goals as goal

pub returns-in_err-word : goal.returns-in_err-word
returns-in_err-word c = rw (gives _ _ c.from_residual.ensures) c.in_err-word.ensures.0

pub returns-in_err-ending : goal.returns-in_err-ending
returns-in_err-ending c =
    let w = c.in_ok-word.ensures in
    rw (gives _ _ c.from_residual-in_err-ending.ensures) (hex_more _ w.1 w.2 _ (rw w.0.after at c.in_err-ending.ensures))

pub returns : goal.returns
returns c =
    let w = c.in_ok-word.ensures in (w.0, hex_good _ w.1 w.2 (rw w.0.after at c.in_ok-ending.ensures))
