-- `heading::lock_good` meets its contract. Assumes nothing.
use Rattle.heading.proofs.Parts.{lock_is}
use Rattle.heading.proofs.lock_good.Goals as goal

pub returns : goal.returns
returns c =
    let args = c.args in
    let struct_known = c.struct_known-1 in let block-allowed = c.block_allowed-block in
    rw (block-allowed.ensures, c.certificate_allowed-certified.ensures, c.from-height.ensures, c.from.ensures) (lock_is args.station struct_known.given.1.1.0)
