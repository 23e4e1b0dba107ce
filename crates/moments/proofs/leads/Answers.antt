-- `moments::leads` meets its contract. Assumes nothing.
use Rattle.store.proofs.Forms.{form_long}
use native.Mathlib.Omega.{arith}
use Rattle.moments.proofs.leads.Goals as goal

pub load-station-requires : goal.load-station-requires
load-station-requires c =
    omega (arith, form_long _ c.requires.form)
