-- `moments::enters_now` meets its contract. Assumes nothing.
use Rattle.store.proofs.Forms.{form_long}
use native.Mathlib.Omega.{arith}
use mathlib.Core.Path.{◌∙◌}
use Rattle.moments.proofs.Moments.{enters_now_lem}
use Rattle.moments.proofs.enters_now.Goals as goal

pub load-station-requires : goal.load-station-requires
load-station-requires c =
    omega (arith, form_long _ c.requires.form)

pub returns : goal.returns
returns c =
    let load = c.load-station in
    c.enters_at.ensures ∙ enters_now_lem c.requires load.result load.ensures
