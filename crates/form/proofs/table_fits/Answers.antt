-- `form::table_fits` meets its contract. Assumes nothing.
use mathlib.Core.Path.{◌∙◌}
use native.Mathlib.Omega.{arith}
use native.Mathlib.Nat.{mul-le-mul_left}
use borrow.Author.Tests.{le-leb, lt-leb}
use Rattle.form.specs.Lent.{fits}
use Rattle.form.proofs.table_fits.Goals as goal

pub returns-then-room-count : goal.returns-then-room-count
unfolding fits
returns-then-room-count c =
    simp (lt-leb _ _ c.if-room-count.true)

pub overflow_mul-size : goal.overflow_mul-size
overflow_mul-size c =
    omega (arith, mul-le-mul_left c.args.size c.if-room-count.false)

pub overflow_add-base : goal.overflow_add-base
overflow_add-base c =
    omega (arith, mul-le-mul_left c.args.size c.if-room-count.false)

pub overflow_mul-size-3 : goal.overflow_mul-size-3
overflow_mul-size-3 c =
    omega (arith, mul-le-mul_left c.args.size c.if-room-count.false)

pub overflow_sub-size : goal.overflow_sub-size
overflow_sub-size c =
    omega (arith, mul-le-mul_left c.args.size c.if-room-count.false)

pub all_zero-requires : goal.all_zero-requires
all_zero-requires c =
    omega (arith, mul-le-mul_left c.args.size c.if-room-count.false)

pub returns : goal.returns
unfolding fits
returns c =
    c.all_zero.ensures ∙ simp (le-leb _ _ c.if-room-count.false)
