-- Answers to the goals of `commit::commit_due`. Assumes nothing.
use Prim.Native.Nat.{◌-◌, ◌<◌}
use mathlib.Core.Path.{refl, sym, ◌∙◌}
use native.Mathlib.Omega.{arith}
use Rattle.store.proofs.Forms.{form_long, form_statements}
use Rattle.commit.proofs.Course.{turn_of, ripe_propose, course_start, course_end, course_not, course_told, course_high, course_settled, turn_broken, turn_whole, turn_grown, turn_differs}
use Rattle.commit.proofs.commit_due.Goals as goal

pub loop-i-init : goal.loop-i-init
loop-i-init c =
    let pre = c.requires in
    course_start _ _ pre.0.form pre.1 pre.3 pre.4

pub is_due-requires : goal.is_due-requires
is_due-requires c =
    let begun = c.requires.0 in
    (form_long _ begun.form, omega (arith, c.loop-i-test.true, c.loop-i.invariant.up, begun.all, form_statements _ begun.form), begun.short)

pub loop-i-preserved-then-not-is_due : goal.loop-i-preserved-then-not-is_due
loop-i-preserved-then-not-is_due c =
    course_not c.loop-i.invariant (omega (arith, c.loop-i-test.true)) (sym c.is_due.ensures ∙ c.if-not-is_due.true)

pub is_told-requires : goal.is_told-requires
is_told-requires c =
    let begun = c.requires.0 in
    let up = c.loop-i.invariant.up in
    (form_long _ begun.form, omega (arith, c.loop-i-test.true, up, begun.all, form_statements _ begun.form), begun.tells.long)

pub loop-i-preserved-then-is_told : goal.loop-i-preserved-then-is_told
loop-i-preserved-then-is_told c =
    let pre = c.requires in let loop = c.loop-i in
    course_told loop.invariant (omega (arith, c.loop-i-test.true)) (sym c.is_due.ensures ∙ c.if-not-is_due.false) pre.0.tells c.is_told.result c.is_told.ensures c.if-is_told.true

pub height_at-own-requires : goal.height_at-own-requires
height_at-own-requires c =
    let begun = c.requires.0 in
    (form_long _ begun.form, omega (arith, c.loop-i-test.true, c.loop-i.invariant.up, begun.all, form_statements _ begun.form))

pub loop-i-preserved-then-count-own : goal.loop-i-preserved-then-count-own
loop-i-preserved-then-count-own c =
    let pre = c.requires in
    let loop = c.loop-i in
    course_high loop.invariant (omega (arith, c.loop-i-test.true)) (sym c.is_due.ensures ∙ c.if-not-is_due.false) pre.0.all (omega (arith, c.height_at-own.ensures))

pub is_settled-requires : goal.is_settled-requires
is_settled-requires c =
    let chained = c.loop-i.invariant.chained in
    omega (arith, chained.high, chained.long)

pub loop-i-preserved-then-is_settled : goal.loop-i-preserved-then-is_settled
loop-i-preserved-then-is_settled c =
    let loop = c.loop-i in
    course_settled loop.invariant (omega (arith, c.loop-i-test.true)) (sym c.is_due.ensures ∙ c.if-not-is_due.false) _ c.is_settled.result c.is_settled.ensures c.if-is_settled.true

pub walk-requires : goal.walk-requires
walk-requires c =
    let pre = c.requires in
    let loop = c.loop-i in
    let height-at = c.height_at-own in let if4 = c.if-count-own in
    let begun = pre.0 in
    let course = loop.invariant in
    let below : c.loop-i.i - 1 < c.args.count = omega (arith, c.loop-i-test.true, course.up) in
    let tall = height-at.ensures in (
      begun.form,
      begun.tells,
      begun.all,
      below,
      course.chained.long,
      begun.heights _ below (ripe_propose _ _ _ _ (sym c.is_due.ensures ∙ c.if-not-is_due.false)),
      omega (arith, tall, if4.false, begun.all, form_statements _ begun.form),
    )

pub loop-i-preserved-in-Lacking : goal.loop-i-preserved-in-Lacking
loop-i-preserved-in-Lacking c =
    let begun = c.requires.0 in
    let lacks = c.in-Lacking.ensures in
    let turn = turn_of c.loop-i.invariant (omega (arith, c.loop-i-test.true)) (sym c.is_due.ensures ∙ c.if-not-is_due.false) c.height_at-own.ensures (omega (arith, c.if-count-own.false, begun.all, form_statements _ begun.form)) lacks.1.from c.walk.auto.chain in
    turn_broken turn (λ e. omega (arith, lacks.0, e))

pub join-requires : goal.join-requires
join-requires c =
    let pre = c.requires in
    let begun = pre.0 in
    let whole = c.in-Whole.ensures in
    let turn = turn_of c.loop-i.invariant (omega (arith, c.loop-i-test.true)) (sym c.is_due.ensures ∙ c.if-not-is_due.false) c.height_at-own.ensures (omega (arith, c.if-count-own.false, begun.all, form_statements _ begun.form)) whole.from c.walk.auto.chain in
    (turn_whole turn refl begun.form pre.1, whole.lowest)

pub loop-i-preserved : goal.loop-i-preserved
loop-i-preserved c =
    let begun = c.requires.0 in
    let turn = turn_of c.loop-i.invariant (omega (arith, c.loop-i-test.true)) (sym c.is_due.ensures ∙ c.if-not-is_due.false) c.height_at-own.ensures (omega (arith, c.if-count-own.false, begun.all, form_statements _ begun.form)) c.in-Whole.ensures.from c.walk.auto.chain in
    let join = c.join in
    turn_grown turn refl _ join.result join.ensures (omega (arith, join.auto.gained, c.loop-i.invariant.long)) _ c.in_ok-len-in-Whole.was

pub returns : goal.returns
returns c =
    let pre = c.requires in
    course_end pre.0.tells _ _ _ c.loop-i.i c.args.settled pre.2 c.loop-i.invariant pre.0.all (omega (arith, c.loop-i-test.false))

pub returns-in_err-len-in-Whole : goal.returns-in_err-len-in-Whole
returns-in_err-len-in-Whole c =
    let pre = c.requires in
    let begun = pre.0 in
    let turn = turn_of c.loop-i.invariant (omega (arith, c.loop-i-test.true)) (sym c.is_due.ensures ∙ c.if-not-is_due.false) c.height_at-own.ensures (omega (arith, c.if-count-own.false, begun.all, form_statements _ begun.form)) c.in-Whole.ensures.from c.walk.auto.chain in
    let join = c.join in
    rw c.from_residual.ensures (turn_differs turn refl _ join.result join.ensures begun.all c.in_err-len-in-Whole.was)
