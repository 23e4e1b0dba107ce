-- Answers to the goals of `plain_pairs::pair`. Assumes nothing.
use mathlib.Core.Path.{refl, sym, ap, ◌∙◌}
use native.Mathlib.Omega.{arith}
use Rattle.plain_statements.specs.Meaning.{found_of, statements, blank}
use Rattle.plain_pairs.proofs.Laws.{pair_done, pair_here, pair_next}
use Rattle.plain_pairs.proofs.pair.Goals as goal

pub loop-i-init : goal.loop-i-init
loop-i-init c = refl

pub returns-in-Some : goal.returns-in-Some
unfolding statements
returns-in-Some c =
    let a = c.args in let w = c.requires in let l = c.loop-i in
    sym (l.invariant ∙ pair_here a.xs.items a.xs.count blank l.i (omega (arith, w.long, w.most)) (omega arith) _ (sym c.conflict_from.ensures ∙ ap found_of c.in-Some.is))

pub loop-i-preserved : goal.loop-i-preserved
unfolding statements
loop-i-preserved c =
    let a = c.args in let w = c.requires in let l = c.loop-i in
    l.invariant ∙ pair_next a.xs.items a.xs.count blank l.i (omega (arith, w.long, w.most)) (omega arith) (sym c.conflict_from.ensures ∙ ap found_of c.in_default.is)

pub returns : goal.returns
unfolding statements
returns c =
    let a = c.args in let l = c.loop-i in
    sym (l.invariant ∙ pair_done a.xs.items a.xs.count l.i (omega arith))
