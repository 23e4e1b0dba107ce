-- Answers to the goals of `openers::few_opened`. Assumes nothing.
use mathlib.Core.Path.{refl, ap, ◌∙◌}
use native.Mathlib.Omega.{arith}
use Rattle.rules.specs.WellFormed.{few_opened}
use Rattle.store.specs.Decode.{tallies}
use Rattle.openers.proofs.Counting.{counted_author, few_next}
use Rattle.openers.proofs.few_opened.Goals as goal

pub loop-author-init : goal.loop-author-init
unfolding few_opened
loop-author-init c = (omega arith, refl)

pub bounds-counts-author : goal.bounds-counts-author
bounds-counts-author c = omega (arith, c.requires.1, c.loop-author-test.true)

pub loop-author-preserved : goal.loop-author-preserved
loop-author-preserved c =
    let Counts-of = c.counts_of-counts in
    let l = c.loop-author in
    (omega (arith, c.loop-author-test.true), few_next (tallies c.args.store.now) l.author _ l.few (counted_author c.args.store.now c.args.count Counts-of.result Counts-of.ensures c.requires.0.is l.author (omega (arith, c.requires.1, c.loop-author-test.true))) l.invariant.1)

pub returns : goal.returns
returns c =
    let l = c.loop-author in
    l.invariant.1 ∙ ap (λ n. few_opened n (tallies c.args.store.now)) (omega (arith, l.invariant.0, c.loop-author-test.false))
