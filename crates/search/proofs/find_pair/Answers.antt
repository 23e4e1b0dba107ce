-- Answers to the goals of `search::find_pair`. Assumes nothing.
use Prim.Native.Nat.{◌<◌}
use mathlib.Core.Path.{sym, ap, ◌∙◌}
use mathlib.Core.List.{List}
use mathlib.Core.Option.{none, some}
use native.Mathlib.Omega.{arith}
use Rattle.rules.specs.Words.{Statement}
use Rattle.rules.specs.Inputs.{pair}
use Rattle.store.specs.Layout.{statement_table, count_of}
use Rattle.store.specs.Decode.{statement_at, statements}
use Rattle.search.specs.Lookups.{of_view}
use Rattle.store.proofs.Rows.{rows_whole}
use Rattle.search.proofs.Pairs.{finds_nothing, finds_at, finds_inside, pair_end, pair_step}
use Rattle.search.proofs.find_pair.Goals as goal

pub statement_count-count-requires : goal.statement_count-count-requires
statement_count-count-requires c =
    c.requires

pub loop-i-init : goal.loop-i-init
unfolding statements
loop-i-init c =
    let a = c.args in
    ap (λ (xs : List Statement). pair (of_view a.view xs)) (sym (rows_whole (statement_at a.store.now) (count_of statement_table a.store.now) 0 (omega arith)))

pub rival_of-requires : goal.rival_of-requires
rival_of-requires c =
    (c.requires, omega (arith, c.statement_count-count.ensures.0))

pub loop-i-preserved : goal.loop-i-preserved
loop-i-preserved c =
    let a = c.args in
    let statement-count = c.statement_count-count in
    let l = c.loop-i in
    l.invariant ∙ pair_step (statement_at a.store.now) a.view (count_of statement_table a.store.now) l.i (omega (arith, statement-count.ensures.0)) none (finds_nothing c.rival_of.ensures c.in_default.is)

pub returns : goal.returns
returns c =
    let a = c.args in
    record { is = sym (c.loop-i.invariant ∙ pair_end (statement_at a.store.now) a.view (count_of statement_table a.store.now) c.loop-i.i (omega (arith, c.statement_count-count.ensures.0))); inside = tt }

pub returns-in-Some : goal.returns-in-Some
returns-in-Some c =
    let a = c.args in
    let statement-count = c.statement_count-count in
    let loop = c.loop-i in let rival-of = c.rival_of in
    let f = statement_at a.store.now in
    let j = c.in-Some.j in
    let e = c.in-Some.is in
    let l : c.loop-i.i < count_of statement_table a.store.now = omega (arith, statement-count.ensures.0) in
    record {
      is = sym (loop.invariant ∙ pair_step f a.view (count_of statement_table a.store.now) loop.i l (some (f j)) (finds_at rival-of.ensures j e));
      inside = (l, finds_inside rival-of.ensures j e);
    }
