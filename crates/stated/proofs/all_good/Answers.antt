-- Answers to the goals of `stated::all_good`. Assumes nothing.
use mathlib.Core.Path.{sym, ap, ◌∙◌}
use Rattle.rules.specs.Lists.{all}
use Rattle.store.specs.Decode.{statement_at, statements}
use Rattle.form.proofs.Walks.{rows_whole, all_end, all_here, all_next}
use Rattle.stated.proofs.all_good.Goals as goal

pub loop-i-init : goal.loop-i-init
unfolding statements
loop-i-init c =
    ap (all _) (rows_whole (statement_at _) _ _ c.requires.is)

pub returns-then-not-statement_good : goal.returns-then-not-statement_good
returns-then-not-statement_good c =
    sym (c.loop-i.invariant ∙ all_here (statement_at _) _ _ _ c.loop-i-test.true (sym c.statement_good.ensures ∙ c.if-not-statement_good.true))

pub loop-i-preserved : goal.loop-i-preserved
loop-i-preserved c =
    c.loop-i.invariant ∙ all_next (statement_at _) _ _ _ c.loop-i-test.true (sym c.statement_good.ensures ∙ c.if-not-statement_good.false)

pub returns : goal.returns
returns c =
    sym (c.loop-i.invariant ∙ all_end (statement_at _) _ _ _ c.loop-i-test.false)
