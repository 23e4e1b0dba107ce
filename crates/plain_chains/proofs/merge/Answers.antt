-- Answers to the goals of `plain_chains::merge`. Assumes nothing.
use mathlib.Core.Path.{sym, ◌∙◌}
use native.Mathlib.Omega.{arith}
use borrow.Author.Tests.{not-true, not-false}
use Rattle.plain_tables.specs.Meaning.{names}
use Rattle.plain_chains.proofs.Merges.{agree_none, stays, grows, differs, agrees}
use Rattle.plain_chains.proofs.merge.Goals as goal

pub loop-k-init : goal.loop-k-init
loop-k-init c = agree_none (names c.args.chain) (names c.args.log)

pub returns-then-log-k : goal.returns-then-log-k
returns-then-log-k c =
    let a = c.args in let w = c.requires in
    record { within = w.0; is = grows a.chain a.log w.0 w.1 _ c.loop-k.invariant c.if-log-k.true }

pub returns-then-ne : goal.returns-then-ne
returns-then-ne c =
    let a = c.args in let w = c.requires in
    record { within = tt; is = differs a.chain a.log w.0 w.1 _ c.loop-k.invariant _ _ (omega arith) (omega arith) (not-true _ (sym c.ne.ensures ∙ c.if-ne.true)) }

pub loop-k-preserved : goal.loop-k-preserved
loop-k-preserved c =
    let a = c.args in let w = c.requires in
    agrees a.chain a.log w.0 w.1 _ c.loop-k.invariant _ _ (omega arith) (omega arith) (not-false _ (sym c.ne.ensures ∙ c.if-ne.false))

pub returns : goal.returns
returns c =
    let a = c.args in let w = c.requires in
    record { within = w.1; is = stays a.chain a.log w.0 w.1 _ c.loop-k.invariant (omega arith) }
