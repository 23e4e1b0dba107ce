-- Answers to the goals of `plain_chains::commits`. Assumes nothing.
use mathlib.Core.Path.{refl, sym, ◌∙◌}
use native.Mathlib.Omega.{arith}
use Rattle.plain_tables.specs.Meaning as tables
use Rattle.plain_statements.specs.Meaning.{statements}
use Rattle.plain_chains.proofs.Joins.{gives_nothing, gives_none, gives_some, gives_within, commits_end, commits_differ, commits_go}
use Rattle.plain_chains.proofs.commits.Goals as goal

pub loop-i-init : goal.loop-i-init
unfolding statements
loop-i-init c = (c.requires.3, refl)

pub commit-requires : goal.commit-requires
commit-requires c = (c.requires.0, c.requires.1, c.loop-i.invariant.0)

pub returns-in_err-names : goal.returns-in_err-names
returns-in_err-names c =
    let a = c.args in let l = c.loop-i in let w = c.requires.2 in
    gives_nothing c.from_residual.ensures (sym (l.invariant.1 ∙ commits_differ (statements a.xs) a.due.items a.due.count _ l.i (tables.names l.names) (omega (arith, w.long, w.most)) (omega arith) (gives_none c.commit.ensures c.in_err-names.was)))

pub loop-i-preserved : goal.loop-i-preserved
loop-i-preserved c =
    let a = c.args in let l = c.loop-i in let w = c.requires.2 in
    (gives_within c.commit.ensures _ c.in_ok-names.was, l.invariant.1 ∙ commits_go (statements a.xs) a.due.items a.due.count _ l.i (tables.names l.names) (omega (arith, w.long, w.most)) (omega arith) _ (gives_some c.commit.ensures _ c.in_ok-names.was))

pub returns : goal.returns
returns c =
    let a = c.args in let l = c.loop-i in
    record { within = l.invariant.0; is = sym (l.invariant.1 ∙ commits_end (statements a.xs) a.due.items a.due.count l.i (tables.names l.names) (omega arith)) }
