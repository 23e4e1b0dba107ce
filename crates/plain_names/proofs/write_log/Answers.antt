-- Answers to the goals of `plain_names::write_log`. Assumes nothing.
use mathlib.Core.Path.{refl, ◌∙◌}
use native.Mathlib.Omega.{arith}
use Rattle.plain_names.proofs.Writing.{log_long, log_ends, log_next}
use Rattle.plain_names.proofs.write_log.Goals as goal

pub loop-k-init : goal.loop-k-init
loop-k-init c = (omega arith, refl, refl, refl)

pub offset_bounds-log-k : goal.offset_bounds-log-k
offset_bounds-log-k c = omega (arith, c.requires.0.most)

pub bounds-log-k : goal.bounds-log-k
bounds-log-k c = omega (arith, c.requires.0.long, c.requires.0.most)

pub overflow_mul-k : goal.overflow_mul-k
overflow_mul-k c = omega (arith, c.requires.0.most)

pub write_name-requires : goal.write_name-requires
write_name-requires c =
    let pre = c.requires in let loop = c.loop-k in
    omega (arith, pre.0.most, pre.1, loop.invariant.2, loop.invariant.1, c.loop-k-test.true)

pub loop-k-preserved : goal.loop-k-preserved
loop-k-preserved c =
    let args = c.args in let pre = c.requires in
    let loop = c.loop-k in let loop-test = c.loop-k-test in
    let write-name = c.write_name in
    (omega arith, loop.invariant.1, write-name.auto.out ∙ loop.invariant.2, log_next args.log pre.0 _ _ loop.k loop.invariant.3 _ (let h = loop-test.true in omega (arith, h, loop.invariant.1)) write-name.ensures)

pub overflow_mul-result : goal.overflow_mul-result
overflow_mul-result c = omega (arith, c.requires.0.most)

pub shape_of-out : goal.shape_of-out
shape_of-out c = c.loop-k.invariant.2

pub returns : goal.returns
returns c =
    let args = c.args in let pre = c.requires in
    let l = c.loop-k in (log_ends args.log pre.0 _ _ l.k l.invariant.3 (omega (arith, l.invariant.1, c.loop-k-test.false)), log_long args.log pre.0)
