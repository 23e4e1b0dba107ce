-- `moves::growing` meets its contract: the clock and the log. Assumes nothing.
use Rattle.moves.proofs.Turns.{enough_now, grown}
use Rattle.moves.proofs.growing.Goals as goal

pub logging-requires : goal.logging-requires
logging-requires c =
    let p = c.requires in enough_now p.formed p.last p.gained p.next c.set_clock.ensures p.long p.space

pub returns : goal.returns
returns c =
    let pre = c.requires in
    let set-clock = c.set_clock in let logging = c.logging in
    grown pre.formed pre.last pre.gained pre.next set-clock.ensures logging.ensures
