-- `moments::enters_at` meets its contract, by the loaded phase. Assumes nothing.
use mathlib.Core.Path.{ap, ◌∙◌}
use mathlib.Core.Bool.{◌&&◌}
use lib.Dec.{ltb}
use Rattle.moments.proofs.Moments.{short_delay, enters_then, enters_never}
use native.Mathlib.Omega.{arith}
use Rattle.moments.proofs.enters_at.Goals as goal

pub is_past-is_over-requires : goal.is_past-is_over-requires
is_past-is_over-requires c =
    omega (arith, short_delay c.requires.0 c.args.station c.requires.1)

pub returns-in-Waiting : goal.returns-in-Waiting
returns-in-Waiting c =
    let args = c.args in let pre = c.requires in
    (λ i. ltb args.station.view (c.last_view_in.ensures i) && c.is_past-is_over.ensures i)
    ∙ enters_then pre.0 args.station pre.1 args.clock _ c.in-Waiting.is

pub returns-in_default : goal.returns-in_default
returns-in_default c =
    let args = c.args in let pre = c.requires in
    enters_never pre.0 args.station pre.1 args.clock c.in_default.not-Waiting
