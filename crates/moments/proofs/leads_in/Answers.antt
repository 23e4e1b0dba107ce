-- `moments::leads_in` meets its contract, by the loaded numbers. Assumes nothing.
use Rattle.moments.proofs.Moments.{some_stations, loaded_outside, loaded_leads}
use mathlib.Core.Path.{ap}
use mathlib.Core.Bool.{not}
use Rattle.moments.proofs.leads_in.Goals as goal

pub is_in_view-requires : goal.is_in_view-requires
is_in_view-requires c =
    (c.requires.0.form, c.requires.1)

pub returns-then-not-is_in_view : goal.returns-then-not-is_in_view
returns-then-not-is_in_view c =
    loaded_outside c.requires.0 c.args.station c.requires.1 _ c.is_in_view.ensures c.if-not-is_in_view.true

pub leader-requires : goal.leader-requires
leader-requires c =
    some_stations c.requires.0 c.args.station c.requires.1

pub returns : goal.returns
returns c =
    let args = c.args in let pre = c.requires in
    let is-in-view = c.is_in_view in let if1 = c.if-not-is_in_view in
    loaded_leads pre.0 args.station pre.1 _ _ is-in-view.ensures (if1.false) c.leader.ensures
