-- `slot_reader::judge` meets its contract: blank, torn, or what a slot ending in 5A holds. Assumes nothing.
use Rattle.slot_reader.proofs.Judging.{is_blank_lem, is_torn, is_ended_lem}
use Rattle.slot_reader.proofs.judge.Goals as goal

pub returns-then-all_zero : goal.returns-then-all_zero
returns-then-all_zero c =
    is_blank_lem _ c.all_zero.ensures c.if-all_zero.true

pub returns-then-slot-ne90 : goal.returns-then-slot-ne90
returns-then-slot-ne90 c =
    is_torn _ c.all_zero.ensures c.if-all_zero.false c.if-slot-ne90.true

pub returns : goal.returns
returns c =
    is_ended_lem _ c.all_zero.ensures c.if-all_zero.false c.if-slot-ne90.false c.read_record.ensures
