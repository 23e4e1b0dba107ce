-- `moves::turning` meets its contract: what follows the log. Assumes nothing.
use Rattle.moves.proofs.Turns.{grown_formed, grown_room, grown_votes, grown_space, turned}
use Rattle.moves.proofs.turning.Goals as goal

pub growing-reported-requires : goal.growing-reported-requires
growing-reported-requires c =
    c.requires.0

pub moving-requires : goal.moving-requires
moving-requires c =
    let pre = c.requires in
    let growing = c.growing-reported in
    let p = pre.0 in
    let w = growing.ensures in
    (grown_formed p.formed p.last p.gained w, grown_room p.formed p.last p.gained w p.fits, grown_space p.formed p.last p.gained w p.space, grown_votes p.formed p.last p.gained w pre.1)

pub returns : goal.returns
returns c =
    let pre = c.requires in
    let growing = c.growing-reported in let moving = c.moving in
    let p = pre.0 in turned p.formed p.last p.gained growing.ensures moving.ensures
