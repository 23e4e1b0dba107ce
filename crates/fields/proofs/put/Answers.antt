-- Answers to the goals of `fields::put`. Assumes nothing.
use mathlib.Core.Path.{◌≡◌, refl, sym, ◌∙◌}
use native.Mathlib.Omega.{arith}
use lib.ListN.{length-set}
use Rattle.fields.specs.Places.{put}
use Rattle.fields.proofs.Laws.{put_step}
use Rattle.fields.proofs.put.Goals as goal

pub loop-k-init : goal.loop-k-init
loop-k-init c = (omega arith, refl, refl)

pub loop-k-preserved : goal.loop-k-preserved
loop-k-preserved c =
    let a = c.args in
    let l = c.loop-k in
    (omega arith, sym (put_step l.s a.at l.k l.left c.loop-k-test.true) ∙ l.invariant.1, simp length-set l.invariant.2)

pub returns : goal.returns
unfolding put
returns c =
    let e : c.loop-k.k ≡ 0 = omega arith in
    rw e at c.loop-k.invariant.1
