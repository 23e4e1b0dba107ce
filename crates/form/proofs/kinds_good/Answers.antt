-- Answers to the goals of `form::kinds_good`. Assumes nothing.
use mathlib.Core.Path.{sym, ap, ◌∙◌}
use native.Mathlib.Omega.{arith}
use Rattle.rules.specs.Lists.{all, within}
use Rattle.store.specs.Decode.{kind_at, kinds}
use Rattle.form.proofs.Walks.{rows_whole, all_end, all_here, all_next}
use Rattle.form.proofs.kinds_good.Goals as goal

pub loop-i-init : goal.loop-i-init
unfolding kinds
loop-i-init c =
    (omega arith, ap (all (within 1 2)) (rows_whole (kind_at _) _ _ c.requires.is))

pub returns-then-not-good : goal.returns-then-not-good
unfolding within
returns-then-not-good c =
    sym (c.loop-i.invariant.1 ∙ all_here (kind_at _) _ (within 1 2) _ c.loop-i-test.true (ap (within 1 2) (sym c.kind_at-kind.ensures) ∙ c.if-not-good.true))

pub loop-i-preserved : goal.loop-i-preserved
unfolding within
loop-i-preserved c =
    (omega arith, c.loop-i.invariant.1 ∙ all_next (kind_at _) _ (within 1 2) _ c.loop-i-test.true (ap (within 1 2) (sym c.kind_at-kind.ensures) ∙ c.if-not-good.false))

pub returns : goal.returns
returns c =
    sym (c.loop-i.invariant.1 ∙ all_end (kind_at _) _ (within 1 2) _ c.loop-i-test.false)
