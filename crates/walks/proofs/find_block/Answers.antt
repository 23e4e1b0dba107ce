-- Answers to the goals of `walks::find_block`. Assumes nothing.
use Rattle.store.proofs.Forms.{form_long, form_statements}
use Rattle.store.proofs.Searches.{find_none, find_here, find_next}
use Rattle.store.specs.Decode.{statements}
use native.Mathlib.Nat.{sub-zero}
use native.Mathlib.Omega.{arith}
use mathlib.Core.Path.{◌∙◌, sym}
use Rattle.walks.proofs.find_block.Goals as goal

pub loop-i-init : goal.loop-i-init
unfolding statements
loop-i-init c =
    (omega arith, rw (c.requires.1, sub-zero))

pub is_block-requires : goal.is_block-requires
is_block-requires c =
    (form_long _ c.requires.0, omega (arith, c.loop-i-test.true, c.requires.1, form_statements _ c.requires.0))

pub loop-i-preserved : goal.loop-i-preserved
loop-i-preserved c =
    let other = sym c.is_block.ensures ∙ c.if-is_block.false in
    (omega (arith, c.loop-i-test.true), c.loop-i.invariant.1 ∙ find_next _ _ _ c.loop-i.i c.loop-i-test.true other)

pub returns : goal.returns
returns c =
    sym (c.loop-i.invariant.1 ∙ find_none _ _ _ c.loop-i.i (omega (arith, c.loop-i-test.false)))

pub returns-then-is_block : goal.returns-then-is_block
returns-then-is_block c =
    let block = sym c.is_block.ensures ∙ c.if-is_block.true in
    sym (c.loop-i.invariant.1 ∙ find_here _ _ _ c.loop-i.i c.loop-i-test.true block)
