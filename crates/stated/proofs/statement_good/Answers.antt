-- `stated::statement_good` meets its contract: the tests field by field, until one fails. Assumes nothing.
use Rattle.stated.proofs.Parts.{bad_view, bad_block, bad_author, bad_vote, Passed, as_new_view, as_propose}
use native.Mathlib.Omega.{arith}
use mathlib.Core.Path.{sym, ◌∙◌}
use Rattle.stated.proofs.statement_good.Goals as goal

pub returns-then-not-view_allowed : goal.returns-then-not-view_allowed
returns-then-not-view_allowed c =
    let a = c.args in
    bad_view a.store.now c.type_inv.store a.i a.station (rw (← c.get-view.ensures.0) (sym c.view_allowed.ensures ∙ c.if-not-view_allowed.true))

pub returns-then-not-height_good : goal.returns-then-not-height_good
returns-then-not-height_good c =
    let a = c.args in
    bad_block a.store.now c.type_inv.store a.i a.station (rw (← c.get-height.ensures.0, ← c.all_zero-zero.ensures) (sym c.height_good.ensures ∙ c.if-not-height_good.true))

pub returns-then-not-leads : goal.returns-then-not-leads
returns-then-not-leads c =
    let a = c.args in
    bad_author a.store.now c.type_inv.store a.i a.station (rw (← c.get-view.ensures.0, ← c.get.ensures.0) (sym c.leads.ensures ∙ c.if-not-leads.true))

pub returns-then-not-vote_in_order : goal.returns-then-not-vote_in_order
returns-then-not-vote_in_order c =
    let a = c.args in
    bad_vote a.store.now c.type_inv.store a.i a.station (rw (← c.voted_at.ensures) (sym c.vote_in_order.ensures ∙ c.if-not-vote_in_order.true))

pub new_view_said-requires : goal.new_view_said-requires
new_view_said-requires c =
    let pre = c.requires in
    let get = c.get-view in
    let get2 = c.get-height in
    (omega (arith, pre.0, pre.1), (get.ensures.0, get2.ensures.0, c.get-mask.ensures.0))

pub returns-then-kind_at-eq1 : goal.returns-then-kind_at-eq1
returns-then-kind_at-eq1 c =
    let a = c.args in
    let passed : Passed a.store.now c.type_inv.store a.i a.station = record {
      view_good = rw (← c.get-view.ensures.0) (sym c.view_allowed.ensures ∙ c.if-not-view_allowed.false);
      block_good = rw (← c.get-height.ensures.0, ← c.all_zero-zero.ensures) (sym c.height_good.ensures ∙ c.if-not-height_good.false);
      leader_good = rw (← c.get-view.ensures.0, ← c.get.ensures.0) (sym c.leads.ensures ∙ c.if-not-leads.false);
      vote_good = rw (← c.voted_at.ensures) (sym c.vote_in_order.ensures ∙ c.if-not-vote_in_order.false);
    } in
    c.new_view_said.ensures ∙ as_new_view _ _ _ _ passed (sym c.kind_at.ensures ∙ c.if-kind_at-eq1.true)

pub propose_said-requires : goal.propose_said-requires
propose_said-requires c =
    let pre = c.requires in
    let get2 = c.get-height in
    (omega (arith, pre.0, pre.1), get2.ensures.0, c.get-mask.ensures.0)

pub returns : goal.returns
returns c =
    let a = c.args in
    let passed : Passed a.store.now c.type_inv.store a.i a.station = record {
      view_good = rw (← c.get-view.ensures.0) (sym c.view_allowed.ensures ∙ c.if-not-view_allowed.false);
      block_good = rw (← c.get-height.ensures.0, ← c.all_zero-zero.ensures) (sym c.height_good.ensures ∙ c.if-not-height_good.false);
      leader_good = rw (← c.get-view.ensures.0, ← c.get.ensures.0) (sym c.leads.ensures ∙ c.if-not-leads.false);
      vote_good = rw (← c.voted_at.ensures) (sym c.vote_in_order.ensures ∙ c.if-not-vote_in_order.false);
    } in
    c.propose_said.ensures ∙ as_propose _ _ _ _ passed (λ e. c.if-kind_at-eq1.false (c.kind_at.ensures ∙ e))
