-- `plain_blames::patience` meets its contract. Assumes nothing.
use native.Mathlib.Omega.{arith}
use Rattle.plain_blames.proofs.Laws.{short_wait}
use Rattle.plain_blames.proofs.patience.Goals as goal

pub overflow_mul-result-2 : goal.overflow_mul-result-2
overflow_mul-result-2 c = omega (arith, short_wait c.args.m c.args.delay c.requires.0 c.requires.1)

pub overflow_add-result-2 : goal.overflow_add-result-2
overflow_add-result-2 c = omega (arith, short_wait c.args.m c.args.delay c.requires.0 c.requires.1)
