-- `acts::blame_full` meets its contract. Assumes nothing.
use Rattle.acts.proofs.Stores.{view_in, blame_quorum}
use Rattle.store.proofs.Forms.{form_long}
use Rattle.rules.specs.Sizes.{quorum}
use Rattle.settings.specs.Made.{settings_of}
use native.Mathlib.Omega.{arith}
use mathlib.Core.Path.{◌∙◌, ap}
use Rattle.acts.proofs.blame_full.Goals as goal

pub load-station-requires : goal.load-station-requires
load-station-requires c =
    omega (arith, form_long _ c.requires.0)

pub overflow_sub-view : goal.overflow_sub-view
overflow_sub-view c =
    (view_in c.args.store.now c.args.view c.requires.1).0

pub blame_at-mask-requires : goal.blame_at-mask-requires
blame_at-mask-requires c =
    (form_long _ c.requires.0, omega (arith, view_in c.args.store.now c.args.view c.requires.1))

pub returns : goal.returns
returns c =
    let args = c.args in let pre = c.requires in let load = c.load-station in
    c.quorum.ensures ∙ ap (quorum (settings_of load.result.settings)) c.blame_at-mask.ensures ∙ blame_quorum load.result args.store.now load.ensures args.view pre.1
