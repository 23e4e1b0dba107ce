-- `display::is_logged` meets its contract. Assumes nothing.
use native.Mathlib.Omega.{arith}
use Rattle.store.proofs.Forms.{form_long, form_log}
use Rattle.display.proofs.Bytes.{logged_zero, logged_above, logged_at_lem}
use Rattle.display.proofs.is_logged.Goals as goal

pub returns-then-at-eq0 : goal.returns-then-at-eq0
returns-then-at-eq0 c = logged_zero _ _ _ c.if-at-eq0.true

pub returns-then-logged-at : goal.returns-then-logged-at
returns-then-logged-at c = logged_above _ _ _ (omega (arith, c.if-logged-at.true, c.requires.1))

pub name_at-requires : goal.name_at-requires
name_at-requires c =
    let pre = c.requires in
    (form_long _ pre.0, omega (arith, form_log _ pre.0, pre.1, c.if-logged-at.false, c.if-at-eq0.false))

pub returns : goal.returns
returns c =
    let pre = c.requires in
    logged_at_lem _ _ _ c.if-at-eq0.false (omega (arith, pre.1, c.if-logged-at.false)) c.name_at.ensures c.eq.ensures
