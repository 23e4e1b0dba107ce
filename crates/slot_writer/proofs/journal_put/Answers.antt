-- `journal_put` meets its contract, test by test. Assumes nothing.
use Rattle.slot_writer.proofs.Putting.{may_fits, not_slot, not_put, is_put}
use Rattle.slot_writer.proofs.journal_put.Goals as goal

pub returns-then-slot-ne-LENGTH : goal.returns-then-slot-ne-LENGTH
returns-then-slot-ne-LENGTH c =
    not_slot _ _ _ _ c.if-slot-ne-LENGTH.true c.answer.ensures

pub write_record-requires : goal.write_record-requires
write_record-requires c =
    let f = may_fits _ _ _ _ c.may_put.ensures c.if-may_put.true in (c.if-slot-ne-LENGTH.false, f.0, f.1, f.2)

pub returns-then-may_put : goal.returns-then-may_put
returns-then-may_put c =
    is_put _ _ _ _ c.if-slot-ne-LENGTH.false c.may_put.ensures c.if-may_put.true c.write_record.ensures

pub returns : goal.returns
returns c =
    not_put _ _ _ _ c.if-slot-ne-LENGTH.false c.may_put.ensures c.if-may_put.false c.answer-2.ensures
