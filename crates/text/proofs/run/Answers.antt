-- Answers to the goals of `text::run`. Assumes nothing.
use Rattle.text.proofs.Runs.{run_none, run_more, run_stop, run_end}
use mathlib.Core.Path.{◌≡◌, sym, ◌∙◌}
use lib.ListN.{length}
use native.Mathlib.Omega.{arith}
use Rattle.text.proofs.run.Goals as goal

pub loop-i-init : goal.loop-i-init
loop-i-init g c = (omega arith, omega arith, λ p f. run_none _ _ _)

pub returns-then-not-passes-clause-runs : goal.returns-then-not-passes-clause-runs
returns-then-not-passes-clause-runs g c =
    λ p f. run_stop _ _ _ _ (omega arith) (omega arith) (sym (f _ _ (omega (arith, c.type_inv.s c.loop-i.i)) c.passes.ensures) ∙ c.if-not-passes.true) (c.loop-i.invariant.2 p f)

pub loop-i-preserved : goal.loop-i-preserved
loop-i-preserved g c =
    (omega arith, omega arith, λ p f. run_more _ _ _ _ (omega arith) (omega arith) (sym (f _ _ (omega (arith, c.type_inv.s c.loop-i.i)) c.passes.ensures) ∙ c.if-not-passes.false) (c.loop-i.invariant.2 p f))

pub returns-clause-runs : goal.returns-clause-runs
returns-clause-runs g c =
    λ p f.
    let e : c.loop-i.i ≡ length c.args.s.now = omega arith in
    rw e at (run_end p c.args.s.now c.args.from c.loop-i.i (omega arith) (omega arith) (omega arith) (c.loop-i.invariant.2 p f))
