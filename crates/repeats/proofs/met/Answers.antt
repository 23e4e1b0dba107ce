-- Answers to the goals of `repeats::met`. Assumes nothing.
use Rattle.chains.proofs.Walks.{walk_end, walk_less, walk_on, walk_here, walk_next}
use Rattle.form.proofs.Forms.{few_statements_lem}
use native.Mathlib.Omega.{arith}
use mathlib.Core.Path.{refl, sym, ◌∙◌}
use Rattle.repeats.proofs.met.Goals as goal

pub loop-rest-init : goal.loop-rest-init
loop-rest-init c =
    (c.requires.2, refl)

pub is_same-requires : goal.is_same-requires
is_same-requires c =
    let k = c.requires.0 in
    (k.long, omega (arith, k.room, c.requires.1), omega (arith, k.room, c.loop-rest.invariant.0.within, c.loop-rest-test.true))

pub returns-then-is_same : goal.returns-then-is_same
returns-then-is_same c =
    sym (c.loop-rest.invariant.1 ∙ walk_here c.loop-rest.invariant.0 c.loop-rest-test.true (sym c.is_same.ensures ∙ c.if-is_same.true))

pub offset_bounds-hung-k : goal.offset_bounds-hung-k
offset_bounds-hung-k c =
    omega (arith, c.loop-rest.invariant.0.within, few_statements_lem c.requires.0)

pub bounds-hung-k : goal.bounds-hung-k
bounds-hung-k c =
    omega (arith, c.loop-rest.invariant.0.within, c.loop-rest-test.true, few_statements_lem c.requires.0)

pub overflow_cast-rest : goal.overflow_cast-rest
overflow_cast-rest c =
    let walk = c.loop-rest.invariant.0 in
    record { fits = omega (arith, walk_less walk c.loop-rest-test.true, walk.within, few_statements_lem c.requires.0) }

pub loop-rest-smaller : goal.loop-rest-smaller
loop-rest-smaller c =
    walk_less c.loop-rest.invariant.0 c.loop-rest-test.true

pub loop-rest-preserved : goal.loop-rest-preserved
loop-rest-preserved c =
    let walk = c.loop-rest.invariant in
    let more = c.loop-rest-test.true in
    (walk_on walk.0 more, walk.1 ∙ walk_next walk.0 more (sym c.is_same.ensures ∙ c.if-is_same.false))

pub returns : goal.returns
returns c =
    sym (c.loop-rest.invariant.1 ∙ walk_end _ _ _ c.loop-rest-test.false)
