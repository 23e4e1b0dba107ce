-- `journal_write` meets its contract, test by test. Assumes nothing.
use Prim.Native.Nat.{◌+◌, ◌*◌, ◌≤◌}
use mathlib.Core.Path.{◌∙◌}
use native.Mathlib.Omega.{arith}
use lib.ListN.{length}
use borrow.Rule.Slice.PartMut.{mid_len}
use Rattle.slots.specs.Slots.{slot_length}
use Rattle.journal.proofs.Rooms.{slot_count_lem, slot_room}
use Rattle.journal.proofs.Writing.{too_long, no_input, no_room, may_write, is_written}
use Rattle.journal.proofs.journal_write.Goals as goal

pub returns-then-count-gt4294967295 : goal.returns-then-count-gt4294967295
returns-then-count-gt4294967295 c =
    let a = c.args in too_long a.journal.now a.kind a.input.now (slot_count_lem a.journal.now) c.if-count-gt4294967295.true c.answer.ensures

pub returns-in_default : goal.returns-in_default
returns-in_default c =
    let a = c.args in let if1 = c.if-count-gt4294967295 in
    let is-input = c.is_input in let if2 = c.if-is_input in
    no_room _ a.kind a.input.now (slot_count_lem a.journal.now) if1.false is-input.ensures if2.true c.find_room.ensures c.in_default.is c.answer-in_default.ensures

pub overflow_mul-at : goal.overflow_mul-at
overflow_mul-at c = omega (arith, slot_room _ _ c.in-Some.ensures.within.1, c.well_formed.0.0)

pub overflow_add-end : goal.overflow_add-end
overflow_add-end c = omega (arith, slot_room _ _ c.in-Some.ensures.within.1, c.well_formed.0.0)

pub slice_bounds-write_record-end : goal.slice_bounds-write_record-end
slice_bounds-write_record-end c = slot_room _ _ c.in-Some.ensures.within.1

pub write_record-requires : goal.write_record-requires
write_record-requires c =
    let a = c.args in
    let m = may_write _ a.kind a.input.now (slot_count_lem a.journal.now) c.if-count-gt4294967295.false c.is_input.ensures c.if-is_input.true c.find_room.ensures c.in-Some.is in
    let p = c.in-Some.room.place in
    (mid_len (p * 128) (p * 128 + 128) a.journal.now (slot_room _ _ c.in-Some.ensures.within.1) ∙ omega arith, m.0, m.1, m.2)

pub returns-then-is_input : goal.returns-then-is_input
returns-then-is_input c =
    let a = c.args in let if1 = c.if-count-gt4294967295 in
    let is-input = c.is_input in let if2 = c.if-is_input in
    let find-room = c.find_room in is_written _ a.kind a.input.now (slot_count_lem a.journal.now) if1.false is-input.ensures if2.true find-room.ensures c.in-Some.is c.write_record.ensures

pub returns : goal.returns
returns c =
    let a = c.args in no_input a.journal.now a.kind a.input.now (slot_count_lem a.journal.now) c.if-count-gt4294967295.false c.is_input.ensures c.if-is_input.false c.answer-2.ensures
