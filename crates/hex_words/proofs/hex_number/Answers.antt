-- Answers to the goals of `hex_words::hex_number`. Assumes nothing.
use Rattle.numbers.proofs.Digits.{value_step, value_end}
use Prim.Native.Nat.{ℕ, ◌+◌, ◌*◌, ◌^◌}
use mathlib.Core.Path.{refl, sym, ap, ◌∙◌}
use native.Mathlib.Omega.{arith}
use native.Mathlib.Nat.{pow-suc, pow-le-pow_right}
use native.Mathlib.Numerals.{add-one}
use lib.ListN.{drop}
use Rattle.text.specs.Words.{value as said}
use Rattle.hex_words.proofs.hex_number.Goals as goal

pub loop-b-init : goal.loop-b-init
loop-b-init c = (omega arith, refl)

pub overflow_mul-value : goal.overflow_mul-value
overflow_mul-value c =
    omega (arith, pow-le-pow_right {n = 16} (omega arith) {i = c.loop-b.b-index} {j = 15} (omega arith))

pub overflow_add-value : goal.overflow_add-value
overflow_add-value c =
    omega (arith, pow-le-pow_right {n = 16} (omega arith) {i = c.loop-b.b-index} {j = 15} (omega arith))

pub loop-b-preserved : goal.loop-b-preserved
loop-b-preserved c =
    let args = c.args in
    let at = c.loop-b in
    let w = args.word.now in
    (omega (arith, pow-suc 16 at.b-index, ap (λ (n : ℕ). 16 ^ n) (add-one at.b-index)), at.invariant.1 ∙ value_step 16 at.value w at.b-index (omega arith) ∙ ap (λ (d : ℕ). said 16 (at.value * 16 + d) (drop (at.b-index + 1) w)) (sym (c.from.ensures ∙ c.digit.ensures.0)))

pub returns : goal.returns
returns c =
    let at = c.loop-b in
    sym (at.invariant.1 ∙ value_end 16 at.value c.args.word.now at.b-index (omega arith))
