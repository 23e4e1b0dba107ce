-- Answers to the goals of `glance::look_down`. Assumes nothing.
use Rattle.glance.proofs.Looking.{looking_start, looking_not, looking_told, looking_early, looking_fresh, looking_others, looking_end}
use Rattle.glance.proofs.Viewing.{of_view_lem, of_other}
use Rattle.glance.proofs.Voting.{vote_other, vote_new_view, vote_own, vote_propose}
use Rattle.glance.proofs.Telling.{told_propose}
use Rattle.glance.specs.Looks.{Tells}
use Rattle.store.specs.Decode.{statement_at}
use Prim.Native.Nat.{◌+◌, ◌-◌}
use Rattle.tallies.proofs.Values.{number_none, number_some}
use Rattle.store.proofs.Forms.{form_long, form_statements}
use native.Mathlib.Omega.{arith}
use mathlib.Core.Path.{sym, ◌∙◌, subst}
use mathlib.Core.Path.{ap}
use mathlib.Core.Bool.{not}
use Rattle.glance.proofs.look_down.Goals as goal

pub loop-i-init : goal.loop-i-init
loop-i-init c =
    looking_start _ _ _ _ _ _

pub is_of_view-requires : goal.is_of_view-requires
is_of_view-requires c =
    let p = c.requires in
    let few = c.loop-i.invariant.few in
    (form_long _ p.1.form, omega (arith, few, p.0.all, form_statements _ p.1.form), p.1.stated _ (omega (arith, few, p.0.all)), p.1.own)

pub pass-i-requires : goal.pass-i-requires
pass-i-requires c =
    (c.requires.1, omega (arith, c.loop-i.invariant.few, c.requires.0.all))

pub loop-i-smaller-then-not-is_of_view : goal.loop-i-smaller-then-not-is_of_view
loop-i-smaller-then-not-is_of_view c =
    omega (arith, c.pass-i.ensures.0)

pub loop-i-preserved-then-not-is_of_view : goal.loop-i-preserved-then-not-is_of_view
loop-i-preserved-then-not-is_of_view c =
    looking_others _ (looking_not c.loop-i.invariant (omega arith) (vote_other _ _ _ (of_other c.is_of_view.ensures (ap not c.if-not-is_of_view.true)))) _ c.pass-i.ensures.0 c.pass-i.ensures.1

pub is_told-requires : goal.is_told-requires
is_told-requires c =
    let p = c.requires in (form_long _ p.1.form, omega (arith, c.loop-i.invariant.few, p.0.all, form_statements _ p.1.form), p.0.tells.long)

pub voted_at-requires : goal.voted_at-requires
voted_at-requires c =
    let p = c.requires in (form_long _ p.1.form, omega (arith, c.loop-i.invariant.few, p.0.all, form_statements _ p.1.form))

pub loop-i-preserved-in_default : goal.loop-i-preserved-in_default
loop-i-preserved-in_default c =
    let i = c.loop-i.i - 1 in
    let told = subst (Tells c.args.told.now ((statement_at c.args.store.now i).height - 1) i) c.if-is_told.true c.is_told.ensures in
    let propose = told_propose c.requires.0.tells _ _ told in
    looking_not c.loop-i.invariant (omega arith) (sym (number_none c.voted_at.result _ c.voted_at.ensures c.in_default.is) ∙ vote_propose _ _ _ (of_view_lem c.is_of_view.ensures (ap not c.if-not-is_of_view.false)) propose)

pub overflow_add-votes : goal.overflow_add-votes
overflow_add-votes c =
    let p = c.requires in omega (arith, c.loop-i.invariant.few, p.0.all, form_statements _ p.1.form)

pub loop-i-preserved-then-is_told : goal.loop-i-preserved-then-is_told
loop-i-preserved-then-is_told c =
    let i = c.loop-i.i - 1 in
    let told = subst (Tells c.args.told.now ((statement_at c.args.store.now i).height - 1) i) c.if-is_told.true c.is_told.ensures in
    let propose = told_propose c.requires.0.tells _ _ told in
    looking_told c.loop-i.invariant (omega arith) _ (sym (number_some c.voted_at.result _ c.voted_at.ensures _ c.in-Some.is) ∙ vote_propose _ _ _ (of_view_lem c.is_of_view.ensures (ap not c.if-not-is_of_view.false)) propose) (λ e. absurd (omega arith)) told

pub kind_at-requires : goal.kind_at-requires
kind_at-requires c =
    let p = c.requires in (form_long _ p.1.form, omega (arith, c.loop-i.invariant.few, p.0.all, form_statements _ p.1.form))

pub loop-i-preserved-then-kind_at-eq1 : goal.loop-i-preserved-then-kind_at-eq1
loop-i-preserved-then-kind_at-eq1 c =
    looking_not c.loop-i.invariant (omega arith) (vote_new_view _ _ _ (sym c.kind_at.ensures ∙ c.if-kind_at-eq1.true))

pub voted_at-requires-in-loop-i : goal.voted_at-requires-in-loop-i
voted_at-requires-in-loop-i c =
    let p = c.requires in (form_long _ p.1.form, omega (arith, c.loop-i.invariant.few, p.0.all, form_statements _ p.1.form))

pub loop-i-preserved-in_default-voted_at : goal.loop-i-preserved-in_default-voted_at
loop-i-preserved-in_default-voted_at c =
    let loop = c.loop-i in let is-of-view = c.is_of_view in
    let if1 = c.if-not-is_of_view in let kind_at = c.kind_at in
    looking_not loop.invariant (omega arith) (sym (number_none c.voted_at-in-loop-i.result _ c.voted_at-in-loop-i.ensures c.in_default-voted_at.is) ∙ vote_own _ _ _ (of_view_lem is-of-view.ensures (ap not if1.false)) (λ e. c.if-kind_at-eq1.false (kind_at.ensures ∙ e)))

pub overflow_add-votes-in-loop-i : goal.overflow_add-votes-in-loop-i
overflow_add-votes-in-loop-i c =
    let p = c.requires in omega (arith, c.loop-i.invariant.few, p.0.all, form_statements _ p.1.form)

pub overflow_add-from : goal.overflow_add-from
overflow_add-from c =
    omega (arith, c.requires.0.short)

pub loop-i-preserved-then-clock-from : goal.loop-i-preserved-then-clock-from
loop-i-preserved-then-clock-from c =
    let loop = c.loop-i in
    let is-of-view = c.is_of_view in let if1 = c.if-not-is_of_view in
    let kind_at = c.kind_at in
    looking_early loop.invariant (omega arith) (c.in-Some-voted_at.vote + 1) (sym (number_some c.voted_at-in-loop-i.result _ c.voted_at-in-loop-i.ensures _ c.in-Some-voted_at.is) ∙ vote_own _ _ _ (of_view_lem is-of-view.ensures (ap not if1.false)) (λ e. c.if-kind_at-eq1.false (kind_at.ensures ∙ e))) (λ e. absurd (omega arith)) (omega (arith, c.from.ensures, c.if-clock-from.true))

pub loop-i-preserved : goal.loop-i-preserved
loop-i-preserved c =
    let loop = c.loop-i in
    let is-of-view = c.is_of_view in let if1 = c.if-not-is_of_view in
    let kind_at = c.kind_at in
    looking_fresh loop.invariant (omega arith) (c.in-Some-voted_at.vote + 1) (sym (number_some c.voted_at-in-loop-i.result _ c.voted_at-in-loop-i.ensures _ c.in-Some-voted_at.is) ∙ vote_own _ _ _ (of_view_lem is-of-view.ensures (ap not if1.false)) (λ e. c.if-kind_at-eq1.false (kind_at.ensures ∙ e))) (λ e. absurd (omega arith))

pub returns : goal.returns
returns c =
    looking_end c.loop-i.invariant c.requires.0.all (omega arith)
