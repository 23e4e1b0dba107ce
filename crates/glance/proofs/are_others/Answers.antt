-- `glance::are_others` meets its contract: none of the four is of the view. Assumes nothing.
use Rattle.glance.proofs.Viewing.{not_this, four_others}
use Rattle.store.proofs.Forms.{form_long, form_statements}
use native.Mathlib.Omega.{arith}
use Rattle.glance.proofs.are_others.Goals as goal

pub overflow_add-i : goal.overflow_add-i
overflow_add-i c =
    omega (arith, form_statements _ c.requires.0.form, c.requires.1)

pub is_of_view-requires : goal.is_of_view-requires
is_of_view-requires c =
    let p = c.requires in (form_long _ p.0.form, omega (arith, form_statements _ p.0.form, p.1), p.0.stated _ (omega (arith, p.1)), p.0.own)

pub overflow_add-i-2 : goal.overflow_add-i-2
overflow_add-i-2 c =
    omega (arith, form_statements _ c.requires.0.form, c.requires.1)

pub is_of_view-requires-2 : goal.is_of_view-requires-2
is_of_view-requires-2 c =
    let p = c.requires in (form_long _ p.0.form, omega (arith, form_statements _ p.0.form, p.1), p.0.stated _ (omega (arith, p.1)), p.0.own)

pub overflow_add-i-3 : goal.overflow_add-i-3
overflow_add-i-3 c =
    omega (arith, form_statements _ c.requires.0.form, c.requires.1)

pub is_of_view-requires-3 : goal.is_of_view-requires-3
is_of_view-requires-3 c =
    let p = c.requires in (form_long _ p.0.form, omega (arith, form_statements _ p.0.form, p.1), p.0.stated _ (omega (arith, p.1)), p.0.own)

pub is_of_view-requires-4 : goal.is_of_view-requires-4
is_of_view-requires-4 c =
    let p = c.requires in (form_long _ p.0.form, omega (arith, form_statements _ p.0.form, p.1), p.0.stated _ (omega (arith, p.1)), p.0.own)

pub returns : goal.returns
returns c =
    let is-of-view = c.is_of_view in let if1 = c.if-is_of_view in
    let is-of-view2 = c.is_of_view-2 in let if2 = c.if-is_of_view-2 in
    four_others _ _ _ _ c.is_of_view-4.ensures (not_this c.is_of_view-3.ensures c.if-is_of_view-3.false) (not_this is-of-view2.ensures if2.false) (not_this is-of-view.ensures if1.false)
