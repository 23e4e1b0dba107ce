-- Answers to the goals of `tallied::good::all_good`. Assumes nothing.
use mathlib.Core.Path.{sym, ap, ◌∙◌}
use Rattle.rules.specs.Lists.{all}
use Rattle.store.specs.Decode.{tally_at, tallies}
use Rattle.form.proofs.Walks.{rows_whole, all_end, all_here, all_next}
use Rattle.tallied.proofs.good.all_good.Goals as goal

pub loop-i-init : goal.loop-i-init
unfolding tallies
loop-i-init c =
    ap (all _) (rows_whole (tally_at _) _ _ c.requires.0.is)

pub returns-then-not-tally_good : goal.returns-then-not-tally_good
returns-then-not-tally_good c =
    sym (c.loop-i.invariant ∙ all_here (tally_at _) _ _ _ c.loop-i-test.true (sym c.tally_good.ensures ∙ c.if-not-tally_good.true))

pub loop-i-preserved : goal.loop-i-preserved
loop-i-preserved c =
    c.loop-i.invariant ∙ all_next (tally_at _) _ _ _ c.loop-i-test.true (sym c.tally_good.ensures ∙ c.if-not-tally_good.false)

pub returns : goal.returns
returns c =
    sym (c.loop-i.invariant ∙ all_end (tally_at _) _ _ _ c.loop-i-test.false)
