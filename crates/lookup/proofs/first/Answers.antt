-- Answers to the goals of `lookup::first`. Assumes nothing.
use mathlib.Core.Path.{◌≡◌, refl, sym, ◌∙◌}
use native.Mathlib.Omega.{arith}
use Rattle.fields.specs.Names.{name_of}
use Rattle.fields.proofs.Names.{words}
use Rattle.lookup.specs.Search.{first_of}
use Rattle.lookup.proofs.Seeks.{record_within, seek_end, seek_here, seek_next, seek_from}
use Rattle.lookup.proofs.Marks.{passed_over}
use Rattle.lookup.proofs.first.Goals as goal

pub loop-name-init : goal.loop-name-init
loop-name-init c = refl

pub marked-next-requires : goal.marked-next-requires
marked-next-requires c = c.requires

pub overflow_mul-size : goal.overflow_mul-size
overflow_mul-size c =
    omega (arith, record_within c.args.base c.args.size c.marked-next.result c.args.end _ (omega arith) c.requires.1)

pub overflow_add-base : goal.overflow_add-base
overflow_add-base c =
    omega (arith, record_within c.args.base c.args.size c.marked-next.result c.args.end _ (omega arith) c.requires.1)

pub is_block-requires : goal.is_block-requires
is_block-requires c =
    omega (arith, c.requires.0, record_within c.args.base c.args.size c.marked-next.result c.args.end _ (omega arith) c.requires.1)

pub overflow_add-i : goal.overflow_add-i
overflow_add-i c = omega arith

pub loop-name-smaller : goal.loop-name-smaller
loop-name-smaller c = omega (arith, seek_from _ c.loop-name.i _ _ c.marked-next.ensures)

pub loop-name-preserved : goal.loop-name-preserved
loop-name-preserved c =
    let a = c.args in
    let g = c.well_formed.1.1.1.1.1.1.0 in
    let passed = c.loop-name.invariant ∙ passed_over a.s.now c.type_inv.s a.name (words a.name g.1.1.0.1 g.1.1.1.0.1 g.1.1.1.1.0.1 g.1.1.1.1.1.0.1) a.key a.base a.size _ c.loop-name.i a.end _ c.mark_of-mark.ensures c.marked-next.ensures in
    passed ∙ seek_next _ _ _ (omega arith) (sym c.is_block.ensures ∙ c.if-is_block.false)

pub returns-then-end-next : goal.returns-then-end-next
returns-then-end-next c =
    let a = c.args in
    let g = c.well_formed.1.1.1.1.1.1.0 in
    let passed = c.loop-name.invariant ∙ passed_over a.s.now c.type_inv.s a.name (words a.name g.1.1.0.1 g.1.1.1.0.1 g.1.1.1.1.0.1 g.1.1.1.1.1.0.1) a.key a.base a.size _ c.loop-name.i a.end _ c.mark_of-mark.ensures c.marked-next.ensures in
    sym (passed ∙ seek_end _ _ _ (omega arith))

pub returns-then-is_block : goal.returns-then-is_block
returns-then-is_block c =
    let a = c.args in
    let g = c.well_formed.1.1.1.1.1.1.0 in
    let passed = c.loop-name.invariant ∙ passed_over a.s.now c.type_inv.s a.name (words a.name g.1.1.0.1 g.1.1.1.0.1 g.1.1.1.1.0.1 g.1.1.1.1.1.0.1) a.key a.base a.size _ c.loop-name.i a.end _ c.mark_of-mark.ensures c.marked-next.ensures in
    sym (passed ∙ seek_here _ _ _ (omega arith) (sym c.is_block.ensures ∙ c.if-is_block.true))
