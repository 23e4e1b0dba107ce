-- Answers to the goals of `chains::Chains::walked`. Assumes nothing.
use Rattle.std.proofs.Common.{◌-◌, length, sym, refl, ◌∙◌, arith, lit≤}
use Rattle.chains.proofs.Walks.{record_within, walk_end, walk_less, walk_on, walk_here, walk_next}
use Rattle.chains.proofs.Chains.walked.Goals as goal

pub loop-rest-init : goal.loop-rest-init
loop-rest-init c = (c.requires.4, refl)

pub overflow_sub-i : goal.overflow_sub-i
overflow_sub-i c =
    omega (arith, c.loop-rest.invariant.0.within)

pub overflow_mul-to : goal.overflow_mul-to
overflow_mul-to c =
    let a = c.args in
    let lies = record_within a.base a.size (a.count - c.loop-rest.rest) a.count (length a.store.now) (omega arith) c.requires.1 in
    omega arith

pub overflow_add-to : goal.overflow_add-to
overflow_add-to c =
    let a = c.args in
    let lies = record_within a.base a.size (a.count - c.loop-rest.rest) a.count (length a.store.now) (omega arith) c.requires.1 in
    omega arith

pub get-requires : goal.get-requires
get-requires c =
    let a = c.args in
    let lies = record_within a.base a.size (a.count - c.loop-rest.rest) a.count (length a.store.now) (omega arith) c.requires.1 in
    (lit≤ tt, omega (arith, c.requires.0))

pub overflow_add-to-in-loop-rest : goal.overflow_add-to-in-loop-rest
overflow_add-to-in-loop-rest c =
    let a = c.args in
    let lies = record_within a.base a.size (a.count - c.loop-rest.rest) a.count (length a.store.now) (omega arith) c.requires.1 in
    omega (arith, c.requires.0)

pub same-requires : goal.same-requires
same-requires c =
    let a = c.args in
    let lies = record_within a.base a.size (a.count - c.loop-rest.rest) a.count (length a.store.now) (omega arith) c.requires.1 in
    (c.requires.3, omega (arith, c.requires.0))

pub returns-then-key-get : goal.returns-then-key-get
returns-then-key-get c =
    sym (c.loop-rest.invariant.1 ∙ walk_here c.loop-rest.invariant.0 c.loop-rest-test.true (rw (← c.get.ensures.0, ← c.same.ensures) c.if-key-get.true))

pub offset_bounds-self-i : goal.offset_bounds-self-i
offset_bounds-self-i c =
    omega (arith, c.loop-rest.invariant.0.within)

pub overflow_cast-rest : goal.overflow_cast-rest
overflow_cast-rest c =
    let walk = c.loop-rest.invariant.0 in
    record { fits = omega (arith, walk_less walk c.loop-rest-test.true, walk.within, c.requires.2) }

pub loop-rest-smaller : goal.loop-rest-smaller
loop-rest-smaller c =
    walk_less c.loop-rest.invariant.0 c.loop-rest-test.true

pub loop-rest-preserved : goal.loop-rest-preserved
loop-rest-preserved c =
    let walk = c.loop-rest.invariant in
    let more = c.loop-rest-test.true in
    (walk_on walk.0 more, walk.1 ∙ walk_next walk.0 more (rw (← c.get.ensures.0, ← c.same.ensures) c.if-key-get.false))

pub returns : goal.returns
returns c =
    sym (c.loop-rest.invariant.1 ∙ walk_end _ _ _ c.loop-rest-test.false)
