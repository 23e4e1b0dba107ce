-- `enter` meets its contract: the header is written anew, with its counts as they were. Assumes nothing.
use Rattle.records.proofs.Entered.{entered}
use Rattle.records.proofs.Sized.{certificate_fits}
use Rattle.store.proofs.Forms.{form_long}
use Rattle.fields.proofs.Names.{name_lt}
use native.Mathlib.Omega.{arith}
use Rattle.records.proofs.enter.Goals as goal

pub load-old-requires : goal.load-old-requires
load-old-requires c =
    omega (arith, form_long _ c.requires)

pub save-requires : goal.save-requires
save-requires c =
    omega (arith, form_long _ c.requires)

pub returns : goal.returns
returns c =
    let a = c.args in
    let g = c.well_formed.1.1.0.1.1 in
    let n = g.1.1.0.1.1 in
    let name = name_lt a.lock.name n.0.1 n.1.0.1 n.1.1.0.1 n.1.1.1.0.1 in
    rw c.save.ensures (entered a.store.now c.requires c.load-old.result c.load-old.ensures a.view a.lock c.ranges.view.fits (certificate_fits a.lock g.0.1 g.1.0.1 name g.1.1.1.0.1))
