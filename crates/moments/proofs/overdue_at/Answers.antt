-- `moments::overdue_at` meets its contract: each test is one of the rule's, by the loaded numbers. Assumes nothing.
use Rattle.moments.proofs.Moments.{view_limits, short_delay, few_votes, short_wait, loaded_calm, loaded_early, loaded_overdue}
use Rattle.store.proofs.Forms.{form_long}
use native.Mathlib.Omega.{arith}
use mathlib.Core.Path.{ap, ◌∙◌}
use mathlib.Core.Bool.{not}
use Rattle.acts.proofs.Votes.{own_small}
use Rattle.moments.proofs.overdue_at.Goals as goal

pub is_in_view-requires : goal.is_in_view-requires
is_in_view-requires c =
    (c.requires.0.form, c.requires.1)

pub returns-then-not-is_in_view : goal.returns-then-not-is_in_view
returns-then-not-is_in_view c =
    loaded_calm c.requires.0 c.args.station c.requires.1 c.args.clock _ c.is_in_view.ensures c.if-not-is_in_view.true

pub overflow_mul-wait : goal.overflow_mul-wait
overflow_mul-wait c =
    omega (arith, few_votes c.requires.0 c.args.station c.requires.1 _ c.requires.3)

pub overflow_add-wait : goal.overflow_add-wait
overflow_add-wait c =
    omega (arith, few_votes c.requires.0 c.args.station c.requires.1 _ c.requires.3)

pub overflow_mul-wait-2 : goal.overflow_mul-wait-2
overflow_mul-wait-2 c =
    let args = c.args in let pre = c.requires in
    omega (arith, short_wait args.votes args.station.settings.delay (few_votes pre.0 args.station pre.1 _ pre.3) (short_delay pre.0 args.station pre.1))

pub overflow_add-wait-2 : goal.overflow_add-wait-2
overflow_add-wait-2 c =
    let args = c.args in let pre = c.requires in
    omega (arith, short_wait args.votes args.station.settings.delay (few_votes pre.0 args.station pre.1 _ pre.3) (short_delay pre.0 args.station pre.1))

pub overflow_sub-clock : goal.overflow_sub-clock
overflow_sub-clock c =
    c.requires.2

pub returns-then-clock-station : goal.returns-then-clock-station
returns-then-clock-station c =
    let args = c.args in let pre = c.requires in
    loaded_early pre.0 args.station pre.1 args.clock _ pre.3 c.if-clock-station.true

pub overflow_sub-station : goal.overflow_sub-station
overflow_sub-station c =
    let args = c.args in let pre = c.requires in
    (view_limits pre.0 args.station pre.1).0

pub blame_at-blames-requires : goal.blame_at-blames-requires
blame_at-blames-requires c =
    let args = c.args in let pre = c.requires in
    (form_long _ pre.0.form, omega (arith, view_limits pre.0 args.station pre.1))

pub holds-requires : goal.holds-requires
holds-requires c =
    let args = c.args in let pre = c.requires in
    own_small pre.0 args.station pre.1

pub returns : goal.returns
returns c =
    let args = c.args in let pre = c.requires in
    let is-in-view = c.is_in_view in let if1 = c.if-not-is_in_view in
    let if2 = c.if-clock-station in
    ap not c.holds.ensures
    ∙ loaded_overdue pre.0 args.station pre.1 args.clock _ _ _ is-in-view.ensures (if1.false) c.blame_at-blames.ensures pre.3 (omega (arith, if2.false))
