-- `set_clock` meets its contract: one field of the header changes. Assumes nothing.
use Rattle.records.proofs.Changes.{put_clock}
use Rattle.store.proofs.Forms.{form_long}
use native.Mathlib.Omega.{arith}
use Rattle.records.proofs.set_clock.Goals as goal

pub put-requires : goal.put-requires
put-requires c =
    omega (arith, form_long _ c.requires)

pub returns : goal.returns
returns c =
    rw c.put.ensures (put_clock c.args.store.now c.requires c.args.clock c.ranges.clock.fits)
