-- Answers to the goals of `linked::is_linked`. Assumes nothing.
use mathlib.Core.Path.{refl, sym, ◌∙◌}
use native.Mathlib.Omega.{arith}
use Rattle.form.proofs.Forms.{few_names_lem, few_statements_lem}
use Rattle.linked.proofs.Parts.{linked_start, linked_end, linked_here, linked_next}
use Rattle.linked.proofs.Heights.{link_none, link_some}
use Rattle.linked.proofs.Telling.{so_far_none, so_far_less, so_far_more}
use Rattle.linked.proofs.is_linked.Goals.{then-telling, else-telling}
use Rattle.linked.proofs.is_linked.Goals as goal

pub returns-then-count-eq0 : goal.returns-then-count-eq0
returns-then-count-eq0 c =
    let p = c.requires in
    record { is = sym (linked_start _ _ p.0.is ∙ linked_end _ _ _ (omega (arith, c.if-count-eq0.true))); told = (so_far_none p.2).told }

pub hang_all-requires : goal.hang_all-requires
hang_all-requires c =
    (c.requires.1, c.new-hung.ensures)

pub loop-k-init : goal.loop-k-init
loop-k-init c =
    let p = c.requires in
    (linked_start _ _ p.0.is, so_far_none p.2)

pub first_sought-requires : goal.first_sought-requires
first_sought-requires c =
    let p = c.requires in
    (omega (arith, c.loop-k-test.true, p.0.room), p.1, c.hang_all.ensures)

pub returns-in_default : goal.returns-in_default
returns-in_default c =
    let inv = c.loop-k.invariant in
    let none = link_none _ _ _ _ c.requires.1.is c.in_default.ensures.above refl in
    record { is = sym (inv.0 ∙ linked_here _ _ _ c.loop-k-test.true none); told = inv.1.told }

pub overflow_cast-told : goal.overflow_cast-told
overflow_cast-told c =
    let few = few_statements_lem c.requires.1 in
    record { fits = omega (arith, c.in-Some.ensures.0) }

pub overflow_add-told : goal.overflow_add-told
overflow_add-told c =
    let few = few_statements_lem c.requires.1 in
    record { fits = omega (arith, c.in-Some.ensures.0) }

pub offset_bounds-told-k : goal.offset_bounds-told-k
offset_bounds-told-k c = omega (arith, c.loop-k-test.true, few_names_lem c.requires.0)

pub bounds-told-k : goal.bounds-told-k
bounds-told-k c = omega (arith, c.loop-k-test.true, few_names_lem c.requires.0)

pub loop-k-preserved : goal.loop-k-preserved
loop-k-preserved c =
    let p = c.requires in
    let inv = c.loop-k.invariant in
    let more = c.loop-k-test.true in
    let found = c.in-Some.ensures in
    let links = link_some _ _ _ _ p.1.is found.1.above (λ e. omega (arith, found.0, e)) in (
      inv.0 ∙ linked_next _ _ _ more links,
      elim c.if-telling.branch [
        | then-telling w ↦ rw (w.told-is) (so_far_more inv.1 _ w.if-telling.true (omega (arith, more, p.0.is)) (omega (arith, more, few_names_lem p.0)) p.1.is found.0 found.1)
        | else-telling w ↦ rw (w.told-is) (so_far_less inv.1 _ w.if-telling.false)
      ],
    )

pub returns : goal.returns
returns c =
    let inv = c.loop-k.invariant in
    record { is = sym (inv.0 ∙ linked_end _ _ _ c.loop-k-test.false); told = inv.1.told }
