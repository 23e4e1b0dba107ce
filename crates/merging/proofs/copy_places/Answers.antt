-- Answers to the goals of `merging::copy_places`. Assumes nothing.
use Rattle.merging.proofs.Places.{copied_none, copied_next, copied_end}
use lib.ListN.{length-set}
use mathlib.Core.Path.{refl}
use native.Mathlib.Omega.{arith}
use Rattle.merging.proofs.copy_places.Goals as goal

pub loop-k-init : goal.loop-k-init
loop-k-init c =
    (omega arith, refl, copied_none _ _ _)

pub loop-k-preserved : goal.loop-k-preserved
loop-k-preserved c =
    let inv = c.loop-k.invariant in
    (omega (arith, inv.0), simp length-set inv.1, copied_next _ _ _ c.loop-k.to c.loop-k.k inv.0 (omega (arith, c.requires.1, inv.1, c.loop-k-test.true)) inv.2)

pub shape_of-to : goal.shape_of-to
shape_of-to c =
    c.loop-k.invariant.1

pub returns : goal.returns
returns c =
    copied_end _ _ _ _ c.loop-k.k _ (omega (arith, c.loop-k-test.false)) c.loop-k.invariant.2
