-- `slot_writer::may_put` meets its contract, test by test. Assumes nothing.
use Rattle.slot_writer.proofs.Putting.{not_blank, too_large, may_be}
use Rattle.slot_writer.proofs.may_put.Goals as goal

pub returns-then-sequence-lt4294967296 : goal.returns-then-sequence-lt4294967296
returns-then-sequence-lt4294967296 c =
    may_be _ _ _ _ c.all_zero.ensures c.if-all_zero.true c.if-sequence-lt4294967296.true c.is_input.ensures

pub returns-then-all_zero : goal.returns-then-all_zero
returns-then-all_zero c =
    too_large _ _ _ _ c.all_zero.ensures c.if-all_zero.true c.if-sequence-lt4294967296.false

pub returns : goal.returns
returns c =
    not_blank _ _ _ _ c.all_zero.ensures c.if-all_zero.false
