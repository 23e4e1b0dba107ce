-- Answers to the goals of `linked::hang_all`. Assumes nothing.
use Prim.Native.Nat.{◌-◌, ◌+◌, ◌%◌}
use mathlib.Core.Path.{◌≡◌, ap}
use native.Mathlib.Omega.{arith}
use Rattle.form.proofs.Forms.{few_statements_lem}
use Rattle.chains.specs.Chains.{chains}
use Rattle.chains.proofs.Walks.{chained_none, chained_more}
use Rattle.linked.specs.Links.{height_chain}
use Rattle.linked.proofs.hang_all.Goals as goal

pub loop-i-init : goal.loop-i-init
loop-i-init c =
    (omega arith, chained_none _ _ _ _ c.requires.1)

pub height_at-requires : goal.height_at-requires
height_at-requires c =
    let k = c.requires.0 in
    (k.long, omega (arith, k.room, c.loop-i.invariant.0, c.loop-i-test.true))

pub hang-requires : goal.hang-requires
hang-requires c =
    let few = few_statements_lem c.requires.0 in
    (omega arith, omega (arith, c.loop-i.invariant.0), omega arith)

pub loop-i-preserved : goal.loop-i-preserved
loop-i-preserved c =
    let loop = c.loop-i in
    let loop-test = c.loop-i-test in
    let height-at = c.height_at in
    let more = loop-test.true in
    let few = few_statements_lem c.requires.0 in
    let e : loop.i - 1 + 1 ≡ loop.i = omega (arith, more) in
    (omega (arith, loop.invariant.0), rw (c.hang.ensures.0, c.hang.ensures.1) (chained_more (height_chain c.args.store.now) (loop.i - 1) c.args.count loop.hung.heads loop.hung.nexts (omega (arith, loop.invariant.0, more)) (rw e loop.invariant.1) _ (ap (◌% chains) height-at.ensures) (omega arith) (omega (arith, loop.invariant.0))))

pub returns : goal.returns
returns c =
    let e : c.loop-i.i ≡ 0 = omega (arith, c.loop-i-test.false) in
    rw e at c.loop-i.invariant.1
