-- Answers to the goals of `text::which`. Assumes nothing.
use Rattle.text.proofs.Runs.{same_is, word_after, passed_end, passed_here, passed_next}
use mathlib.Core.Path.{refl, sym, ◌∙◌}
use native.Mathlib.Omega.{arith}
use borrow.Author.Rules.{rules}
use Rattle.text.proofs.which.Goals as goal

pub loop-it-init : goal.loop-it-init
loop-it-init c = (omega arith, omega arith, λ ws l. record { left = l; is = refl })

pub returns-then-start-end : goal.returns-then-start-end
returns-then-start-end c =
    λ ws l. passed_end c.word-next.ensures (c.loop-it.invariant.2 ws l) c.if-start-end.true

pub returns-then-eq : goal.returns-then-eq
returns-then-eq c =
    λ ws l. passed_here c.word-next.ensures (c.loop-it.invariant.2 ws l) c.if-start-end.false (sym (same_is _ _) ∙ sym c.eq.ensures ∙ c.if-eq.true)

pub loop-it-smaller : goal.loop-it-smaller
loop-it-smaller c =
    let r = c.word-next.ensures in omega (arith, r.low, r.high, c.if-start-end.false, word_after _ _ _ c.loop-it.invariant.0 r)

pub loop-it-preserved : goal.loop-it-preserved
loop-it-preserved c =
    let loop = c.loop-it in let word = c.word-next in let if1 = c.if-start-end in
    (search rules, let r = word.ensures in omega (arith, r.low, r.high, if1.false, word_after _ _ _ loop.invariant.0 r), λ ws l. passed_next word.ensures (loop.invariant.2 ws l) if1.false (sym (same_is _ _) ∙ sym c.eq.ensures ∙ c.if-eq.false))
