-- `acts::quit` meets its contract. Assumes nothing.
use Rattle.acts.proofs.Stores.{quit_fits, quit_left}
use native.Mathlib.Omega.{arith}
use Rattle.store.proofs.Forms.{form_long}
use Rattle.acts.proofs.quit.Goals as goal

pub load-station-requires : goal.load-station-requires
load-station-requires c =
    omega (arith, form_long _ c.requires.form)

pub set_phase-requires : goal.set_phase-requires
set_phase-requires c =
    (c.requires.form, quit_fits c.requires c.load-station.result c.load-station.ensures)

pub returns : goal.returns
returns c =
    quit_left c.requires c.load-station.result c.load-station.ensures c.set_phase.ensures
