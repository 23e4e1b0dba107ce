-- `turns::lead` meets its contract: the new-view is handled as a statement. Assumes nothing.
use Rattle.turns.proofs.Leading.{now_leads, lead_never, lead_now, now_fits}
use Rattle.moments.proofs.Moments.{loaded_now}
use Rattle.turns.proofs.Parts.{works_still}
use Rattle.store.proofs.Forms.{form_long}
use native.Mathlib.Omega.{arith}
use mathlib.Core.Path.{sym, ◌∙◌}
use Rattle.acts.proofs.Works.{works_is}
use Rattle.turns.proofs.lead.Goals as goal

pub load-station-requires : goal.load-station-requires
load-station-requires c =
    omega (arith, form_long _ c.requires.0.form)

pub returns-then-not-leads_at : goal.returns-then-not-leads_at
returns-then-not-leads_at c =
    let load = c.load-station in
    let p = c.requires.0 in
    works_still c.args.out.now c.args.at p.form (lead_never _ (sym (c.leads_at.ensures ∙ loaded_now p load.result load.ensures) ∙ c.if-not-leads_at.true))

pub own_new_view-x-requires : goal.own_new_view-x-requires
own_new_view-x-requires c =
    let p = c.requires.0 in
    let load = c.load-station in
    (p, now_leads _ (sym (c.leads_at.ensures ∙ loaded_now p load.result load.ensures) ∙ c.if-not-leads_at.false))

pub planned-plan-requires : goal.planned-plan-requires
planned-plan-requires c =
    (c.requires.0, c.own_new_view-x.ensures.1)

pub statement-requires : goal.statement-requires
statement-requires c =
    let pre = c.requires in
    let load = c.load-station in
    let leads-at = c.leads_at in let if1 = c.if-not-leads_at in
    let own-new-view = c.own_new_view-x in
    (pre.0, own-new-view.ensures.1, now_fits _ own-new-view.result (sym (leads-at.ensures ∙ loaded_now pre.0 load.result load.ensures) ∙ if1.false) own-new-view.ensures.0 ∙ pre.1, c.planned-plan.ensures, pre.2)

pub returns : goal.returns
returns c =
    let pre = c.requires in
    let load = c.load-station in
    let leads-at = c.leads_at in
    let if1 = c.if-not-leads_at in
    let own-new-view = c.own_new_view-x in
    let statement = c.statement in
    works_is (lead_now _ (sym (leads-at.ensures ∙ loaded_now pre.0 load.result load.ensures) ∙ if1.false) own-new-view.result own-new-view.ensures.0) statement.ensures
