-- `glance::look` meets its contract, by the loaded numbers. Assumes nothing.
use native.Mathlib.Omega.{arith}
use Rattle.glance.proofs.Seeing.{begun, views, delay_short}
use Rattle.glance.proofs.look.Goals as goal

pub overflow_mul-settings : goal.overflow_mul-settings
overflow_mul-settings c =
    omega (arith, delay_short _ _ c.requires.2 c.requires.0.bytes)

pub look_down-requires : goal.look_down-requires
look_down-requires c =
    let pre = c.requires in
    (begun _ _ _ pre.2 pre.0 pre.1 pre.3, views _ pre.1 _ pre.2 pre.0)
