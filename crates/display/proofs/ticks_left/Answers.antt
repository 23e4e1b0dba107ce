-- `display::ticks_left` meets its contract: at zero or above the difference, below it what is missing to 2^64. Assumes nothing.
use mathlib.Core.Path.{refl}
use native.Mathlib.Omega.{arith}
use Rattle.display.proofs.Bytes.{left_now, left_over}
use Rattle.display.proofs.ticks_left.Goals as goal

pub returns-then-clock-due : goal.returns-then-clock-due
returns-then-clock-due c = left_now _ _ c.if-clock-due.true

pub returns : goal.returns
returns c = left_over _ _ _ (omega (arith, c.if-clock-due.false)) (omega (arith, c.well_formed)) refl
