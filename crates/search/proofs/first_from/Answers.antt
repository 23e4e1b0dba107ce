-- Answers to the goals of `search::first_from`. Assumes nothing.
use mathlib.Core.Path.{sym, ◌∙◌}
use native.Mathlib.Omega.{arith}
use Rattle.store.specs.Layout.{statement_table, count_of}
use Rattle.store.proofs.Searches.{find_none, find_here, find_next}
use Rattle.store.specs.Decode.{statement_at}
use Rattle.search.proofs.first_from.Goals as goal
use Rattle.search.proofs.first_from.Goals.{then-count-i, else-count-i+then-is_one}

pub loop-i-preserved : goal.loop-i-preserved
loop-i-preserved g c =
    let l = c.loop-i in
    λ p h. l.invariant p h ∙ find_next (statement_at c.args.store.now) p (count_of statement_table c.args.store.now) l.i (omega (arith, c.statement_count-count.ensures.0, c.if-count-i.false)) (sym (h l.i c.is_one.result c.is_one.ensures) ∙ c.if-is_one.false)

pub returns : goal.returns
returns g c =
    let l = c.loop-i in
    λ p h.
    elim c.if-count-i.branch [
      | then-count-i w ↦
          w.result-is
          ∙ sym (l.invariant p h ∙ find_none (statement_at c.args.store.now) p (count_of statement_table c.args.store.now) l.i (omega (arith, c.statement_count-count.ensures.0, w.if-count-i.true)))
      | else-count-i+then-is_one w ↦
          w.result-is
          ∙ sym (l.invariant p h ∙ find_here (statement_at c.args.store.now) p (count_of statement_table c.args.store.now) l.i (omega (arith, c.statement_count-count.ensures.0, w.if-count-i.false)) (sym (h l.i w.is_one.result w.is_one.ensures) ∙ w.if-is_one.true))
    ]
