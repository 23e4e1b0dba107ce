-- Answers to the goals of `slots::copy`. Assumes nothing.
use Prim.Native.Nat.{ℕ, ◌+◌}
use mathlib.Core.Path.{refl, sym, ap, ◌∙◌}
use native.Mathlib.Nat.{add-zero}
use lib.ListN.{length-set}
use Rattle.outgoing.specs.Wrote.{wrote}
use Rattle.slots.proofs.Records.{wrote_step, wrote_end}
use Rattle.slots.proofs.copy.Goals as goal

pub loop-k-init : goal.loop-k-init
loop-k-init c = (ap (λ (i : ℕ). wrote c.args.slot.now i c.args.input.now) (add-zero c.args.at), refl)

pub loop-k-preserved : goal.loop-k-preserved
loop-k-preserved c =
    let a = c.args in
    let l = c.loop-k in
    (sym (wrote_step l.slot a.at l.k a.input.now c.loop-k-test.true) ∙ l.invariant.0, simp length-set l.invariant.1)

pub shape_of-slot : goal.shape_of-slot
shape_of-slot c = c.loop-k.invariant.1

pub returns : goal.returns
returns c =
    let a = c.args in
    let l = c.loop-k in
    sym (wrote_end l.slot (a.at + l.k) l.k a.input.now c.loop-k-test.false) ∙ l.invariant.0
