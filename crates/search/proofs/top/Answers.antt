-- Answers to the goals of `search::top`. Assumes nothing.
use Prim.Native.Nat.{◌-◌}
use mathlib.Core.Path.{sym, ◌∙◌}
use native.Mathlib.Omega.{arith}
use Rattle.store.specs.Layout.{statement_table, count_of}
use Rattle.store.specs.Decode.{statement_at, statements}
use Rattle.store.proofs.Counts.{long}
use Rattle.search.proofs.Statements.{read_height}
use Rattle.search.proofs.Tops.{topmost_none, topmost_other, topmost_lower, topmost_here, topmost_all}
use Rattle.search.proofs.top.Goals as goal

pub statement_count-i-requires : goal.statement_count-i-requires
statement_count-i-requires c =
    c.requires

pub loop-i-init : goal.loop-i-init
loop-i-init c =
    let a = c.args in
    (omega (arith, c.statement_count-i.ensures.0), topmost_none (statement_at a.store.now) a.view (count_of statement_table a.store.now) c.statement_count-i.result (omega (arith, c.statement_count-i.ensures.0)))

pub view_at-requires : goal.view_at-requires
view_at-requires c =
    (long c.requires, omega (arith, c.statement_count-i.ensures.0))

pub loop-i-preserved-then-view_at-view : goal.loop-i-preserved-then-view_at-view
loop-i-preserved-then-view_at-view c =
    let a = c.args in
    let l = c.loop-i in
    (omega arith, topmost_other (statement_at a.store.now) a.view (count_of statement_table a.store.now) l.i c.loop-i-test.true l.invariant.0 l.best l.height l.invariant.1 (λ e. c.if-view_at-view.true (c.view_at.ensures ∙ e)))

pub statement_at-x-requires : goal.statement_at-x-requires
statement_at-x-requires c =
    (long c.requires, omega (arith, c.statement_count-i.ensures.0))

pub loop-i-preserved-then-x-height : goal.loop-i-preserved-then-x-height
loop-i-preserved-then-x-height c =
    let a = c.args in
    let l = c.loop-i in
    let loop-test = c.loop-i-test in let view-at = c.view_at in let if1 = c.if-view_at-view in
    let statement-at = c.statement_at-x in
    (omega arith, topmost_lower (statement_at a.store.now) a.view (count_of statement_table a.store.now) l.i loop-test.true l.invariant.0 (sym view-at.ensures ∙ if1.false) l.best l.height l.invariant.1 (omega (arith, read_height statement-at.result (statement_at a.store.now (l.i - 1)) statement-at.ensures)))

pub loop-i-preserved : goal.loop-i-preserved
loop-i-preserved c =
    let a = c.args in
    let l = c.loop-i in
    let loop-test = c.loop-i-test in let view-at = c.view_at in let if1 = c.if-view_at-view in
    let statement-at = c.statement_at-x in
    (omega arith, topmost_here (statement_at a.store.now) a.view (count_of statement_table a.store.now) l.i loop-test.true l.invariant.0 (sym view-at.ensures ∙ if1.false) l.best l.height l.invariant.1 statement-at.result.height (read_height statement-at.result (statement_at a.store.now (l.i - 1)) statement-at.ensures) c.if-x-height.false)

pub returns : goal.returns
unfolding statements
returns c =
    let a = c.args in
    topmost_all (statement_at a.store.now) a.view (count_of statement_table a.store.now) c.loop-i.i c.loop-i.best c.loop-i.height c.loop-i-test.false c.loop-i.invariant.1
