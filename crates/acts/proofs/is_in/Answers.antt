-- `acts::is_in` meets its contract. Assumes nothing.
use mathlib.Core.Path.{ap}
use mathlib.Core.Logic.{⊎_elim}
use native.Mathlib.Omega.{arith}
use denote.Enum.Declared.{tag_of}
use Rattle.store.specs.contracts.Phase.{the_type}
use Rattle.acts.proofs.Stores.{in_view_lem, not_in_view}
use Rattle.store.proofs.Forms.{form_long}
use Rattle.acts.proofs.is_in.Goals as goal

pub load-station-requires : goal.load-station-requires
load-station-requires c =
    omega (arith, form_long _ c.requires)

pub returns-in-InView : goal.returns-in-InView
returns-in-InView c =
    in_view_lem c.load-station.result c.args.store.now c.load-station.ensures c.args.view c.in-InView.is

pub returns-in_default : goal.returns-in_default
returns-in_default c =
    let args = c.args in
    not_in_view c.load-station.result args.store.now c.load-station.ensures args.view c.in_default.not-InView
