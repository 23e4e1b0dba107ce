-- Answers to the goals of `walks::copy_told`. Assumes nothing.
use Rattle.walks.proofs.Places.{lowered_none, lowered_next, lowered_end}
use lib.ListN.{length-set}
use mathlib.Core.Path.{refl}
use native.Mathlib.Omega.{arith}
use Rattle.walks.proofs.copy_told.Goals as goal

pub loop-k-init : goal.loop-k-init
loop-k-init c =
    (omega arith, refl, lowered_none _ _)

pub loop-k-preserved : goal.loop-k-preserved
loop-k-preserved c =
    let inv = c.loop-k.invariant in
    (omega arith, simp length-set inv.1, lowered_next _ _ c.loop-k.to c.loop-k.k (omega (arith, c.requires.1, inv.1)) inv.2)

pub shape_of-to : goal.shape_of-to
shape_of-to c =
    c.loop-k.invariant.1

pub returns : goal.returns
returns c =
    lowered_end _ _ _ c.loop-k.k _ (omega (arith, c.loop-k.invariant.0)) c.loop-k.invariant.2
