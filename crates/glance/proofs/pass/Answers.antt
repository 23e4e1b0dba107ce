-- Answers to the goals of `glance::pass`. Assumes nothing.
use Rattle.glance.proofs.Viewing.{others_on}
use native.Mathlib.Omega.{arith}
use mathlib.Core.Path.{ap}
use mathlib.Core.Bool.{not}
use Rattle.glance.proofs.pass.Goals as goal

pub loop-i-init : goal.loop-i-init
loop-i-init c =
    (omega arith, λ j l m. absurd (omega arith))

pub are_others-requires : goal.are_others-requires
are_others-requires c =
    (c.requires.0, omega (arith, c.loop-i.invariant.0, c.requires.1))

pub loop-i-preserved : goal.loop-i-preserved
loop-i-preserved c =
    (omega (arith, c.loop-i.invariant.0), others_on _ _ _ _ c.are_others.result (omega (arith, c.loop-i-test.true)) c.are_others.ensures (ap not c.if-are_others.true) c.loop-i.invariant.1)
