-- `list_writer::enter` meets its contract. Assumes nothing.
use mathlib.Core.Path.{sym, ◌∙◌, ap}
use Prim.Native.Nat.{ℕ, ◌+◌}
use lib.ListN.{length}
use Rattle.list_writer.proofs.Entering.{not_kept, no_slot, is_entered}
use Rattle.list_writer.proofs.enter.Goals as goal

pub returns-then-is_full : goal.returns-then-is_full
returns-then-is_full c =
    let args = c.args in let is-kept = c.is_kept in
    let if1 = c.if-is_kept in
    no_slot args.kind args.input.now args.number args.said.now args.list.now args.out.now is-kept.ensures if1.true c.is_full.ensures c.if-is_full.true c.answer.ensures

pub add-requires : goal.add-requires
add-requires c =
    let pre = c.requires in let is-kept = c.is_kept in
    let if1 = c.if-is_kept in
    (pre.list_value.0, sym c.is_full.ensures ∙ c.if-is_full.false, pre.list_value.1 (sym is-kept.ensures ∙ if1.true))

pub returns-then-is_kept : goal.returns-then-is_kept
returns-then-is_kept c =
    let args = c.args in let pre = c.requires in
    let is-kept = c.is_kept in
    let if1 = c.if-is_kept in
    let is-full = c.is_full in
    let if2 = c.if-is_full in let add = c.add in
    let copy = c.copy in
    is_entered args.kind args.input.now args.number args.said.now args.list.now args.out.now is-kept.ensures if1.true is-full.ensures if2.false (ap (λ (n : ℕ). n + length args.said.now) c.refuse.ensures) add.ensures copy.ensures pre.number_bound.2

pub returns : goal.returns
returns c =
    let args = c.args in
    not_kept args.kind args.input.now args.number args.said.now args.list.now args.out.now c.is_kept.ensures c.if-is_kept.false c.refuse-2.ensures
