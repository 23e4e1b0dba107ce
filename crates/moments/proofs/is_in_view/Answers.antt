-- `moments::is_in_view` meets its contract, by the loaded phase. Assumes nothing.
use mathlib.Core.Path.{sym, ap, ◌∙◌}
use Rattle.laws.proofs.Tests.{eqb_self}
use Rattle.acts.proofs.Stores.{in_view_lem, not_in_view}
use Rattle.moments.proofs.is_in_view.Goals as goal

pub returns-in-InView : goal.returns-in-InView
returns-in-InView c =
    let args = c.args in
    sym (eqb_self args.station.view) ∙ in_view_lem args.station args.store.now c.requires.1 args.station.view c.in-InView.is

pub returns-in_default : goal.returns-in_default
returns-in_default c =
    let args = c.args in
    not_in_view args.station args.store.now c.requires.1 args.station.view c.in_default.not-InView
