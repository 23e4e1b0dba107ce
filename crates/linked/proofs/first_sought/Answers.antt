-- Answers to the goals of `linked::first_sought`. Assumes nothing.
use Prim.Native.Nat.{◌-◌}
use mathlib.Core.Path.{◌≡◌, sym, ◌∙◌}
use native.Mathlib.Omega.{arith}
use Rattle.laws.proofs.Bounds.{statements_most}
use Rattle.store.specs.Layout.{size_in}
use Rattle.form.proofs.Forms.{few_statements_lem}
use Rattle.chains.proofs.Walks.{walk_less}
use Rattle.linked.proofs.Parts.{sought_any, sought_above}
use Rattle.linked.proofs.Heights.{seek_start, seek_here, seek_on, seek_end}
use Rattle.linked.proofs.first_sought.Goals as goal

pub overflow_cast-rest : goal.overflow_cast-rest
overflow_cast-rest c =
    let a = c.args in
    let seek = seek_start a.store.now a.k c.requires.2 (omega arith) in
    record { fits = omega (arith, seek.above.within, few_statements_lem c.requires.1) }

pub loop-rest-init : goal.loop-rest-init
loop-rest-init c =
    seek_start c.args.store.now c.args.k c.requires.2 (omega arith)

pub overflow_cast-k : goal.overflow_cast-k
overflow_cast-k c =
    record { fits = omega (arith, statements_most (size_in c.args.store.now), c.requires.0) }

pub overflow_add-k : goal.overflow_add-k
overflow_add-k c =
    record { fits = omega (arith, statements_most (size_in c.args.store.now), c.requires.0) }

pub is_block-named-requires : goal.is_block-named-requires
is_block-named-requires c =
    let k = c.requires.1 in
    (k.long, omega (arith, k.room, c.loop-rest.invariant.above.within, c.loop-rest-test.true), c.name_place-at.ensures.1)

pub is_above-requires : goal.is_above-requires
is_above-requires c =
    let k = c.requires.1 in
    (k.long, omega (arith, k.room, c.loop-rest.invariant.above.within, c.loop-rest-test.true), c.requires.0)

pub returns-then-is_above-named : goal.returns-then-is_above-named
returns-then-is_above-named c =
    let at = c.name_place-at.ensures.0 in
    let is = sought_above _ _ _ _ at c.is_block-named.ensures c.is_above.ensures in
    let loop = c.loop-rest in
    let within = loop.invariant.above.within in
    let e : c.args.count - (c.args.count - loop.rest) ≡ loop.rest = omega (arith, within) in
    (omega (arith, within, c.loop-rest-test.true), rw e (seek_here loop.invariant c.loop-rest-test.true (sym is ∙ c.if-is_above-named.true)))

pub offset_bounds-hung-i : goal.offset_bounds-hung-i
offset_bounds-hung-i c =
    omega (arith, c.loop-rest.invariant.above.within, few_statements_lem c.requires.1)

pub bounds-hung-i : goal.bounds-hung-i
bounds-hung-i c =
    omega (arith, c.loop-rest.invariant.above.within, c.loop-rest-test.true, few_statements_lem c.requires.1)

pub overflow_cast-rest-in-loop-rest : goal.overflow_cast-rest-in-loop-rest
overflow_cast-rest-in-loop-rest c =
    let walk = c.loop-rest.invariant.above in
    record { fits = omega (arith, walk_less walk c.loop-rest-test.true, walk.within, few_statements_lem c.requires.1) }

pub loop-rest-smaller : goal.loop-rest-smaller
loop-rest-smaller c =
    walk_less c.loop-rest.invariant.above c.loop-rest-test.true

pub loop-rest-preserved : goal.loop-rest-preserved
loop-rest-preserved c =
    let at = c.name_place-at.ensures.0 in
    let block = c.is_block-named.ensures in
    let is = sought_above _ _ _ _ at block c.is_above.ensures in
    seek_on c.loop-rest.invariant c.loop-rest-test.true (sym is ∙ c.if-is_above-named.false) (sought_any _ _ _ _ at block)

pub returns : goal.returns
returns c = seek_end c.loop-rest.invariant c.loop-rest-test.false
