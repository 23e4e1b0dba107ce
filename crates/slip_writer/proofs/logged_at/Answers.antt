-- `slip_writer::logged_at` meets its contract: genesis, or the name at the place below. Assumes nothing.
use native.Mathlib.Omega.{arith}
use Rattle.store.proofs.Forms.{form_long, form_log}
use Rattle.slip_writer.proofs.Chains.{logged_zero, logged_is}
use Rattle.slip_writer.proofs.logged_at.Goals as goal

pub returns-then-height-eq0 : goal.returns-then-height-eq0
returns-then-height-eq0 c = logged_zero _ c.if-height-eq0.true c.zero.ensures

pub name_at-requires : goal.name_at-requires
name_at-requires c =
    let pre = c.requires in
    (form_long _ pre.0, omega (arith, pre.1, form_log _ pre.0, c.if-height-eq0.false))

pub returns : goal.returns
returns c = logged_is _ c.if-height-eq0.false c.requires.1 c.name_at.ensures
