-- `search::rival_of` meets its contract. Assumes nothing.
use mathlib.Core.Path.{sym, ◌∙◌}
use mathlib.Core.Option.{none}
use native.Mathlib.Omega.{arith}
use Rattle.rules.specs.Words.{conflict}
use Rattle.wire.specs.Meaning.{statement_of}
use Rattle.store.specs.Layout.{statement_table, count_of}
use Rattle.store.specs.Decode.{statement_at}
use Rattle.store.proofs.Counts.{long, few_statements_lem}
use Rattle.search.proofs.Statements.{read_conflicts}
use Rattle.search.proofs.Pairs.{rival_other, rival_found}
use Rattle.search.proofs.rival_of.Goals as goal

pub view_at-requires : goal.view_at-requires
view_at-requires c =
    (long c.requires.0, omega (arith, c.requires.1, few_statements_lem c.requires.0))

pub returns-then-view_at-view : goal.returns-then-view_at-view
returns-then-view_at-view c =
    let a = c.args in
    rival_other (statement_at a.store.now) a.view (count_of statement_table a.store.now) a.i (λ e. c.if-view_at-view.true (c.view_at.ensures ∙ e))

pub statement_at-x-requires : goal.statement_at-x-requires
statement_at-x-requires c =
    (long c.requires.0, omega (arith, c.requires.1, few_statements_lem c.requires.0))

pub overflow_add-i : goal.overflow_add-i
overflow_add-i c =
    omega (arith, c.requires.1, few_statements_lem c.requires.0)

pub returns : goal.returns
returns c =
    let a = c.args in let pre = c.requires in let view-at = c.view_at in
    rival_found
    (statement_at a.store.now)
    a.view
    (count_of statement_table a.store.now)
    a.i
    pre.1
    (sym view-at.ensures ∙ c.if-view_at-view.false)
    (conflict (statement_of c.statement_at-x.result none))
    (read_conflicts c.statement_at-x.result (statement_at a.store.now a.i) c.statement_at-x.ensures)
    c.conflict_from.result
    c.conflict_from.ensures
