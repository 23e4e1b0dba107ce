-- Answers to the goals of `numbers::decimal`. Assumes nothing.
use Rattle.text.proofs.Runs.{all_end, all_here, all_next}
use Rattle.numbers.proofs.Digits.{value_step, value_end, value_grows, decimal_empty, decimal_other, decimal_over, decimal_is}
use Prim.Native.Nat.{ℕ, ◌+◌, ◌*◌}
use mathlib.Core.Path.{refl, sym, ap, ◌∙◌}
use mathlib.Core.Option.{some}
use native.Mathlib.Omega.{arith}
use lib.ListN.{drop}
use Rattle.text.specs.Words.{is_decimal, value as said}
use Rattle.numbers.proofs.decimal.Goals as goal

pub returns-then-word-eq0 : goal.returns-then-word-eq0
returns-then-word-eq0 c = sym (decimal_empty _ _ c.if-word-eq0.true)

pub loop-b-init : goal.loop-b-init
loop-b-init c = (omega arith, omega arith, refl, refl)

pub returns-then-not-is_decimal : goal.returns-then-not-is_decimal
returns-then-not-is_decimal c =
    let at = c.loop-b in
    let w = c.args.word.now in
    sym (decimal_other _ w (at.invariant.2 ∙ all_here is_decimal w at.b-index (omega arith) (sym c.is_decimal.ensures ∙ c.if-not-is_decimal.true)))

pub returns-then-most-value : goal.returns-then-most-value
returns-then-most-value c =
    let at = c.loop-b in
    let w = c.args.word.now in
    let d = c.from-d.ensures ∙ c.digit.ensures.0 in
    let more = at.invariant.3 ∙ value_step 10 at.value w at.b-index (omega arith) ∙ ap (λ (d : ℕ). said 10 (at.value * 10 + d) (drop (at.b-index + 1) w)) (sym d) in
    sym (decimal_over _ w (omega (arith, more, value_grows (at.value * 10 + c.from-d.result) (drop (at.b-index + 1) w))))

pub returns-then-most-value-2 : goal.returns-then-most-value-2
returns-then-most-value-2 c =
    let at = c.loop-b in
    let w = c.args.word.now in
    let d = c.from-d.ensures ∙ c.digit.ensures.0 in
    let more = at.invariant.3 ∙ value_step 10 at.value w at.b-index (omega arith) ∙ ap (λ (d : ℕ). said 10 (at.value * 10 + d) (drop (at.b-index + 1) w)) (sym d) in
    sym (decimal_over _ w (omega (arith, more, value_grows (at.value * 10 + c.from-d.result) (drop (at.b-index + 1) w))))

pub loop-b-preserved : goal.loop-b-preserved
loop-b-preserved c =
    let at = c.loop-b in
    let w = c.args.word.now in
    let d = c.from-d.ensures ∙ c.digit.ensures.0 in
    let more = at.invariant.3 ∙ value_step 10 at.value w at.b-index (omega arith) ∙ ap (λ (d : ℕ). said 10 (at.value * 10 + d) (drop (at.b-index + 1) w)) (sym d) in
    (omega arith, omega arith, at.invariant.2 ∙ all_next is_decimal w at.b-index (omega arith) (sym c.is_decimal.ensures ∙ c.if-not-is_decimal.false), more)

pub returns : goal.returns
returns c =
    let at = c.loop-b in
    let w = c.args.word.now in
    let is = at.invariant.3 ∙ value_end 10 at.value w at.b-index (omega arith) in
    sym (decimal_is _ w at.invariant.0 (at.invariant.2 ∙ all_end is_decimal w at.b-index (omega arith)) (omega (arith, is)) ∙ ap some is)
