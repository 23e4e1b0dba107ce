-- Answers to the goals of `plain_answers::fold`. Assumes nothing.
use Prim.Native.Nat.{ℕ}
use mathlib.Core.Path.{◌∙◌}
use native.Mathlib.Omega.{arith}
use lib.ListN.{length-replicate}
use Rattle.rules.specs.Limits.{least_out_small}
use Rattle.lent_list.proofs.Lengths.{lengths, slots_counted}
use Rattle.plain_answers.proofs.Folding.{good_head, fresh_is_whole, fold_starts, fold_ends, fold_skips, fold_next, fold_stops, held_input, name_long}
use Rattle.plain_answers.proofs.fold.Goals as goal

pub settings_in-requires : goal.settings_in-requires
settings_in-requires c = c.requires.0

pub fresh-engine-requires : goal.fresh-engine-requires
fresh-engine-requires c = (c.settings_in.ensures.1, good_head c.args.list.now c.settings_in.result c.requires.1 c.settings_in.ensures.0)

pub overflow_sub-count : goal.overflow_sub-count
overflow_sub-count c = omega (arith, (lengths c.args.list.now c.requires.0).0)

pub loop-place-init : goal.loop-place-init
loop-place-init c =
    let args = c.args in let pre = c.requires in (
      slots_counted _,
      length-replicate {A = ℕ} least_out_small 0,
      fresh_is_whole args.list.now c.settings_in.result c.fresh-engine.result (good_head args.list.now c.settings_in.result pre.1 c.settings_in.ensures.0) c.fresh-engine.ensures,
      fold_starts args.list.now c.settings_in.result c.fresh-engine.result pre.1 c.settings_in.ensures.0 c.fresh-engine.ensures,
    )

pub held_at-requires : goal.held_at-requires
held_at-requires c = (c.requires.0, rw (← c.loop-place.invariant.0) c.loop-place-test.true)

pub loop-place-preserved-in-None : goal.loop-place-preserved-in-None
loop-place-preserved-in-None c =
    let args = c.args in let loop = c.loop-place in
    (loop.invariant.0, loop.invariant.1, loop.invariant.2, fold_skips args.list.now loop.place loop.engine loop.invariant.3 c.held_at.ensures c.in-None.is)

pub turn_by-t-requires : goal.turn_by-t-requires
turn_by-t-requires c =
    let loop = c.loop-place in let held_at = c.held_at in
    (loop.invariant.2, name_long _ _ (held_input held_at.ensures _ c.in-Some.is), omega (arith, loop.invariant.1))

pub returns-then-not-is_kept : goal.returns-then-not-is_kept
returns-then-not-is_kept c =
    let args = c.args in
    let loop = c.loop-place in
    let held_at = c.held_at in
    let turn_by = c.turn_by-t in
    fold_stops args.list.now loop.place loop.engine loop.invariant.3 held_at.ensures c.in-Some.is turn_by.ensures c.is_kept.ensures c.if-not-is_kept.true

pub loop-place-preserved : goal.loop-place-preserved
loop-place-preserved c =
    let args = c.args in
    let loop = c.loop-place in
    let held_at = c.held_at in
    let turn_by = c.turn_by-t in
    let loop-test = c.loop-place-test in
    (loop.invariant.0, turn_by.auto.out ∙ loop.invariant.1, turn_by.ensures.whole, fold_next args.list.now loop.place loop.engine loop.invariant.3 held_at.ensures c.in-Some.is turn_by.ensures c.is_kept.ensures c.if-not-is_kept.false)

pub returns : goal.returns
returns c = let l = c.loop-place in fold_ends c.args.list.now l.place l.engine l.invariant.3 l.invariant.2 (omega (arith, l.invariant.0, c.loop-place-test.false))
