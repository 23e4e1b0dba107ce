-- Answers to the goals of `fields::all_zero`. Assumes nothing.
use Prim.Native.Nat.{◌+◌}
use mathlib.Core.Path.{◌≡◌, refl}
use native.Mathlib.Omega.{arith}
use Rattle.fields.specs.Places.{number}
use Rattle.fields.proofs.Laws.{number_suc}
use Rattle.fields.proofs.Differ.{zero_step, same_test}
use Rattle.fields.proofs.all_zero.Goals as goal

pub loop-k-init : goal.loop-k-init
unfolding number
loop-k-init c = (omega arith, record { to = λ e. refl; from = λ e. refl })

pub loop-k-preserved : goal.loop-k-preserved
loop-k-preserved c =
    let a = c.args in
    let l = c.loop-k in
    let x = c.type_inv.s (a.at + l.k) in
    (omega arith, simp number_suc (zero_step 256 l.any _ _ x.fits l.invariant.1))

pub returns : goal.returns
returns c =
    let e : c.loop-k.k ≡ c.args.width = omega arith in
    same_test _ _ _ (rw e at c.loop-k.invariant.1)
