-- Answers to the goals of `fields::by_bytes`. Assumes nothing.
use Prim.Native.Nat.{ℕ, ◌^◌}
use mathlib.Core.Path.{◌≡◌, refl, ap}
use native.Mathlib.Omega.{arith}
use native.Mathlib.Nat.{pow-suc}
use native.Mathlib.Numerals.{add-one}
use Rattle.fields.specs.Places.{number}
use Rattle.fields.proofs.Laws.{number_suc, pow_small}
use Rattle.fields.proofs.by_bytes.Goals as goal

pub loop-k-init : goal.loop-k-init
unfolding number
loop-k-init c = (omega arith, refl, omega arith)

pub overflow_mul-value : goal.overflow_mul-value
overflow_mul-value c = omega (arith, pow_small c.loop-k.k (omega arith))

pub overflow_add-value : goal.overflow_add-value
overflow_add-value c = omega (arith, pow_small c.loop-k.k (omega arith))

pub loop-k-preserved : goal.loop-k-preserved
loop-k-preserved c =
    let k = c.loop-k.k in
    (omega arith, rw number_suc (omega arith), omega (arith, pow-suc 256 k, ap (λ (n : ℕ). 256 ^ n) (add-one k)))

pub returns : goal.returns
returns c =
    let e : c.loop-k.k ≡ c.args.width = omega arith in
    rw (← e) (c.loop-k.invariant.1, c.loop-k.invariant.2)
