-- `moves::next_fits` meets its contract: whether a statement fits is the same at every clock. Assumes nothing.
use mathlib.Core.Path.{sym, ◌∙◌}
use native.Mathlib.Omega.{arith}
use mathlib.Core.Option.{none}
use Rattle.wire.specs.Meaning.{statement_of}
use Rattle.store.specs.Decode.{state_of}
use Rattle.plans.proofs.Plans.{plan_room}
use Rattle.acts.proofs.Works.{formed_parts}
use Rattle.moves.proofs.Turns.{clock_small, loaded_next, later_leader, never_next, fits_next}
use Rattle.moves.proofs.next_fits.Goals as goal

pub overflow_add-station : goal.overflow_add-station
overflow_add-station c =
    omega (arith, clock_small c.requires.0 c.args.station c.requires.1)

pub returns-then-not-leads_at : goal.returns-then-not-leads_at
returns-then-not-leads_at c =
    let args = c.args in let pre = c.requires in
    never_next pre.0 (sym (c.leads_at.ensures ∙ loaded_next pre.0 args.station pre.1) ∙ c.if-not-leads_at.true)

pub own_new_view-x-requires : goal.own_new_view-x-requires
own_new_view-x-requires c =
    let args = c.args in let pre = c.requires in
    (pre.0, later_leader _ (sym (c.leads_at.ensures ∙ loaded_next pre.0 args.station pre.1) ∙ c.if-not-leads_at.false))

pub returns : goal.returns
returns c =
    let pre = c.requires in let args = c.args in
    let leads-at = c.leads_at in let if1 = c.if-not-leads_at in
    let own-new-view = c.own_new_view-x in
    c.fits.ensures ∙ plan_room (statement_of own-new-view.result none) (state_of c.args.store.now) (formed_parts c.requires.0) c.planned.result c.planned.ensures
    ∙ fits_next _ own-new-view.result (sym (leads-at.ensures ∙ loaded_next pre.0 args.station pre.1) ∙ if1.false) own-new-view.ensures.0
