-- Answers to the goals of `walks::walk`. Assumes nothing.
use Prim.Native.Nat.{◌-◌, ◌<◌}
use native.Mathlib.Omega.{arith}
use Rattle.store.proofs.Forms.{form_long, form_statements}
use Rattle.glance.proofs.Readers.{height_of_lem, link_of_lem}
use Rattle.walks.proofs.Reaching.{meets_low}
use Rattle.walks.proofs.Walks.{walking_start, walking_stored, walking_next, walking_end, walking_meets, walking_broken}
use Rattle.walks.proofs.walk.Goals as goal

pub statement_at-x-requires : goal.statement_at-x-requires
statement_at-x-requires c =
    let pre = c.requires in
    (form_long _ pre.0, omega (arith, pre.2, pre.3, form_statements _ pre.0))

pub overflow_sub-chain : goal.overflow_sub-chain
overflow_sub-chain c =
    omega (arith, c.requires.5, height_of_lem _ _ _ c.statement_at-x.ensures)

pub overflow_cast-chain : goal.overflow_cast-chain
overflow_cast-chain c =
    let pre = c.requires in
    omega (arith, pre.2, pre.3, form_statements _ pre.0)

pub bounds-chain-height : goal.bounds-chain-height
bounds-chain-height c =
    let pre = c.requires in
    omega (arith, pre.4, pre.5, pre.6, height_of_lem _ _ _ c.statement_at-x.ensures)

pub loop-k-init : goal.loop-k-init
loop-k-init c =
    let pre = c.requires in
    let tall = height_of_lem _ _ _ c.statement_at-x.ensures in
    walking_start c.args.chain.now (omega (arith, pre.2, pre.3)) tall (omega (arith, pre.5)) (omega (arith, pre.6)) pre.4
    (link_of_lem _ _ _ c.statement_at-x.ensures)

pub meets-requires : goal.meets-requires
meets-requires c =
    let pre = c.requires in
    let walking = c.loop-k.invariant in
    (pre.0, pre.1, omega (arith, c.loop-k-test.true), omega (arith, walking.below, walking.most))

pub copy_told-requires : goal.copy_told-requires
copy_told-requires c =
    let tells = c.requires.1 in
    let walking = c.loop-k.invariant in
    let meets = c.meets in
    (omega (arith, tells.long, walking.below, walking.most), omega (arith, walking.long, walking.below, walking.most), meets_low tells _ _ meets.result meets.ensures c.if-meets.true (omega (arith, c.loop-k-test.true)))

pub overflow_cast-k : goal.overflow_cast-k
overflow_cast-k c =
    let walking = c.loop-k.invariant in
    omega (arith, walking.below, walking.most)

pub find_block-requires : goal.find_block-requires
find_block-requires c =
    (c.requires.0, c.requires.2)

pub overflow_cast-chain-in-loop-k : goal.overflow_cast-chain-in-loop-k
overflow_cast-chain-in-loop-k c =
    let pre = c.requires in
    let loop = c.loop-k in let find-block = c.find_block in
    omega (arith, form_statements _ pre.0, walking_stored loop.invariant find-block.ensures (omega (arith, c.loop-k-test.true)) c.in-Some.is)

pub bounds-chain-k : goal.bounds-chain-k
bounds-chain-k c =
    let walking = c.loop-k.invariant in
    omega (arith, walking.below, walking.most, walking.long)

pub statement_at-parent-requires : goal.statement_at-parent-requires
statement_at-parent-requires c =
    let form = c.requires.0 in
    (form_long _ form, omega (arith, form_statements _ form, walking_stored c.loop-k.invariant c.find_block.ensures (omega (arith, c.loop-k-test.true)) c.in-Some.is))

pub loop-k-preserved : goal.loop-k-preserved
loop-k-preserved c =
    let loop = c.loop-k in let find-block = c.find_block in
    walking_next loop.invariant find-block.ensures (omega (arith, c.loop-k-test.true)) c.in-Some.is (link_of_lem _ _ _ c.statement_at-parent.ensures)

pub returns : goal.returns
returns c =
    walking_end c.loop-k.invariant (omega (arith, c.loop-k-test.false))

pub shape_of-chain-then-meets : goal.shape_of-chain-then-meets
shape_of-chain-then-meets c =
    let pre = c.requires in
    let loop = c.loop-k in
    omega (arith, c.copy_told.auto.to, loop.invariant.long, pre.4)

pub returns-then-meets : goal.returns-then-meets
returns-then-meets c =
    let pre = c.requires in
    let loop = c.loop-k in
    let meets = c.meets in
    let if2 = c.if-meets in
    walking_meets loop.invariant meets.result meets.ensures if2.true pre.1 (omega (arith, c.loop-k-test.true)) c.copy_told.ensures

pub returns-in_default : goal.returns-in_default
returns-in_default c =
    let pos : 0 < c.loop-k.k - 1 = omega (arith, c.loop-k-test.true) in
    (pos, walking_broken c.loop-k.invariant c.find_block.ensures pos c.in_default.is)
