-- `offers::may_offer` meets its contract, test by test. Assumes nothing.
use Rattle.fields.specs.Names.{name_of}
use native.Mathlib.Omega.{arith}
use Rattle.store.proofs.Forms.{form_long}
use Rattle.offers.proofs.Offers.{may_is}
use Rattle.offers.proofs.may_offer.Goals as goal

pub load-station-requires : goal.load-station-requires
load-station-requires c = omega (arith, form_long _ c.requires.form)

pub returns : goal.returns
returns c =
    let a = c.args in
    let load = c.load-station in
    may_is load.result a.store.now load.ensures (name_of a.name) c.leads.ensures c.is_opened.ensures c.is_zero.ensures c.is_used.ensures
