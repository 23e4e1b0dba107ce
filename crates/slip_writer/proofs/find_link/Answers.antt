-- Answers to the goals of `slip_writer::find_link`. Assumes nothing.
use mathlib.Core.Path.{sym, ◌∙◌}
use native.Mathlib.Omega.{arith}
use native.Mathlib.Nat.{sub-zero}
use Rattle.fields.specs.Names.{name_of}
use Rattle.store.specs.Decode.{statement_at, statements}
use Rattle.store.proofs.Forms.{form_long, form_statements}
use Rattle.store.proofs.Searches.{find_none, find_here, find_next}
use Rattle.linked.specs.Links.{is_link}
use Rattle.slip_writer.proofs.find_link.Goals as goal

pub loop-i-init : goal.loop-i-init
unfolding statements
loop-i-init c = (omega arith, rw (c.requires.1, sub-zero))

pub links-requires : goal.links-requires
links-requires c =
    let pre = c.requires in
    (form_long _ pre.0, omega (arith, pre.1, form_statements _ pre.0, c.loop-i-test.true))

pub loop-i-preserved : goal.loop-i-preserved
loop-i-preserved c =
    let a = c.args in
    let l = c.loop-i in
    (omega arith, l.invariant.1 ∙ find_next (statement_at a.store.now) (is_link a.height (name_of a.name) (name_of a.parent)) _ l.i (omega arith) (sym c.links.ensures ∙ c.if-links.false))

pub returns : goal.returns
returns c =
    let a = c.args in
    let l = c.loop-i in
    sym (l.invariant.1 ∙ find_none (statement_at a.store.now) (is_link a.height (name_of a.name) (name_of a.parent)) _ l.i (omega arith))

pub returns-then-links : goal.returns-then-links
returns-then-links c =
    let a = c.args in
    let l = c.loop-i in
    sym (l.invariant.1 ∙ find_here (statement_at a.store.now) (is_link a.height (name_of a.name) (name_of a.parent)) _ l.i (omega arith) (sym c.links.ensures ∙ c.if-links.true))
