-- Answers to the goals of `slip_writer::find_name`. Assumes nothing.
use mathlib.Core.Path.{sym, ap, ◌∙◌}
use native.Mathlib.Omega.{arith}
use native.Mathlib.Nat.{sub-zero}
use lib.Dec.{eqb}
use Rattle.fields.specs.Names.{name_of}
use Rattle.store.specs.Decode.{name_at, names}
use Rattle.store.proofs.Forms.{form_long, form_log}
use Rattle.store.proofs.Searches.{find_none, find_here, find_next}
use Rattle.slip_writer.proofs.find_name.Goals as goal

pub loop-i-init : goal.loop-i-init
unfolding names
loop-i-init c = (omega arith, rw (c.requires.1, sub-zero))

pub name_at-requires : goal.name_at-requires
name_at-requires c =
    let pre = c.requires in
    (form_long _ pre.0, omega (arith, pre.1, form_log _ pre.0, c.loop-i-test.true))

pub loop-i-preserved : goal.loop-i-preserved
loop-i-preserved c =
    let a = c.args in
    let l = c.loop-i in
    (omega arith, l.invariant.1 ∙ find_next (name_at a.store.now) (eqb (name_of a.name)) _ l.i (omega arith) (ap (eqb (name_of a.name)) (sym c.name_at.ensures) ∙ sym c.eq.ensures ∙ c.if-eq.false))

pub returns : goal.returns
returns c =
    let a = c.args in
    let l = c.loop-i in
    sym (l.invariant.1 ∙ find_none (name_at a.store.now) (eqb (name_of a.name)) _ l.i (omega arith))

pub returns-then-eq : goal.returns-then-eq
returns-then-eq c =
    let a = c.args in
    let l = c.loop-i in
    sym (l.invariant.1 ∙ find_here (name_at a.store.now) (eqb (name_of a.name)) _ l.i (omega arith) (ap (eqb (name_of a.name)) (sym c.name_at.ensures) ∙ sym c.eq.ensures ∙ c.if-eq.true))
