-- `plain_leads::lead` meets its contract: what the leader makes is handled. Assumes nothing.
use mathlib.Core.Path.{sym, ◌∙◌}
use Rattle.plain_leads.proofs.Laws.{made_allowed, follows, leading}
use Rattle.plain_leads.proofs.lead.Goals as goal

pub returns-then-not-leads_now : goal.returns-then-not-leads_now
returns-then-not-leads_now c = follows c.args.e _ c.args.at c.requires.0.sized (sym c.leads_now.ensures ∙ c.if-not-leads_now.true)

pub handled-requires : goal.handled-requires
handled-requires c =
    (c.requires.0, made_allowed c.args.e c.requires.0 c.own_new_view-made.result c.own_new_view-made.ensures (sym c.leads_now.ensures ∙ c.if-not-leads_now.false), c.requires.1)

pub returns : goal.returns
returns c =
    let leads-now = c.leads_now in let if1 = c.if-not-leads_now in
    let own-new-view = c.own_new_view-made in
    leading c.args.e _ c.args.at own-new-view.result (sym leads-now.ensures ∙ if1.false) own-new-view.ensures c.handled.ensures
