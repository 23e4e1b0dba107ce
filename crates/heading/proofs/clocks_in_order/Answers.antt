-- `heading::clocks_in_order` meets its contract. Assumes nothing.
use Rattle.heading.proofs.Parts.{clocks_are}
use Rattle.heading.proofs.clocks_in_order.Goals as goal

pub returns : goal.returns
returns c =
    rw (c.phase_in_order-waited.ensures, c.from.ensures) (clocks_are c.args.station)
