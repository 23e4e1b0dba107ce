-- Answers to the goals of `store::find_statement`. Assumes nothing.
use Rattle.store.proofs.Searches.{find_none, find_here, find_next, other_key}
use Rattle.store.proofs.Forms.{form_long, form_statements}
use Rattle.store.specs.Decode.{statement_at, statements}
use Rattle.wire.specs.Meaning.{statement_of}
use Rattle.rules.specs.Words.{same_statement}
use native.Mathlib.Nat.{sub-zero}
use native.Mathlib.Omega.{arith}
use mathlib.Core.Option.{none}
use mathlib.Core.Path.{sym, ◌∙◌}
use Rattle.store.proofs.find_statement.Goals as goal

pub get_count-count-requires : goal.get_count-count-requires
get_count-count-requires c =
    omega (arith, form_long _ c.requires)

pub loop-i-init : goal.loop-i-init
unfolding statements
loop-i-init c =
    let count = c.get_count-count.ensures.0 in
    (omega arith, count, rw (count, sub-zero))

pub overflow_mul-i : goal.overflow_mul-i
overflow_mul-i c =
    omega (arith, form_long _ c.requires, form_statements _ c.requires, c.loop-i.invariant.1)

pub overflow_add-i : goal.overflow_add-i
overflow_add-i c =
    omega (arith, form_long _ c.requires, form_statements _ c.requires, c.loop-i.invariant.1)

pub get-requires : goal.get-requires
get-requires c =
    (omega arith, omega (arith, form_long _ c.requires, form_statements _ c.requires, c.loop-i.invariant.1))

pub overflow_add-i-then-get-key : goal.overflow_add-i-then-get-key
overflow_add-i-then-get-key c = omega arith

pub loop-i-smaller-then-get-key : goal.loop-i-smaller-then-get-key
loop-i-smaller-then-get-key c = omega arith

pub loop-i-preserved-then-get-key : goal.loop-i-preserved-then-get-key
unfolding statement_of
loop-i-preserved-then-get-key c =
    let a = c.args in
    let l = c.loop-i in
    let x = statement_of a.statement none in
    let other = other_key a.store.now c.type_inv.store x l.i c.well_formed.1.0.1.1.1.1.0.1 _ _ c.key_of-key.ensures c.get.ensures.0 c.if-get-key.true in
    (omega arith, l.invariant.1, l.invariant.2 ∙ find_next (statement_at a.store.now) (same_statement x) _ l.i (omega arith) other)

pub is_statement-requires : goal.is_statement-requires
is_statement-requires c =
    (form_long _ c.requires, omega (arith, form_statements _ c.requires, c.loop-i.invariant.1))

pub overflow_add-i-in-loop-i : goal.overflow_add-i-in-loop-i
overflow_add-i-in-loop-i c = omega arith

pub loop-i-smaller : goal.loop-i-smaller
loop-i-smaller c = omega arith

pub loop-i-preserved : goal.loop-i-preserved
loop-i-preserved c =
    let a = c.args in
    let l = c.loop-i in
    (omega arith, l.invariant.1, l.invariant.2 ∙ find_next (statement_at a.store.now) (same_statement (statement_of a.statement none)) _ l.i (omega arith) (sym c.is_statement.ensures ∙ c.if-is_statement.false))

pub returns-then-count-i : goal.returns-then-count-i
returns-then-count-i c =
    let a = c.args in
    let l = c.loop-i in
    sym (l.invariant.2 ∙ find_none (statement_at a.store.now) (same_statement (statement_of a.statement none)) _ l.i (omega arith))

pub returns-then-is_statement : goal.returns-then-is_statement
returns-then-is_statement c =
    let a = c.args in
    let l = c.loop-i in
    sym (l.invariant.2 ∙ find_here (statement_at a.store.now) (same_statement (statement_of a.statement none)) _ l.i (omega arith) (sym c.is_statement.ensures ∙ c.if-is_statement.true))
