-- `replay::has_lengths` meets its contract, length by length. Assumes nothing.
use native.Mathlib.Omega.{arith}
use Rattle.journal.proofs.Rooms.{slot_count_lem}
use Rattle.replay.proofs.Reports.{no_store, no_out, too_long, by_report}
use Rattle.replay.proofs.has_lengths.Goals as goal

pub returns-then-out-least_out_in : goal.returns-then-out-least_out_in
returns-then-out-least_out_in c =
    let args = c.args in let is_whole = c.is_whole in
    no_out args.journal.now args.store.now args.out.now args.report.now is_whole.ensures c.if-is_whole.true (omega (arith, c.if-out-least_out_in.true, c.least_out_in.ensures))

pub returns-then-count-gt4294967295 : goal.returns-then-count-gt4294967295
returns-then-count-gt4294967295 c =
    let args = c.args in let is_whole = c.is_whole in
    let if1 = c.if-is_whole in
    too_long args.journal.now args.store.now args.out.now args.report.now is_whole.ensures if1.true (omega (arith, c.if-out-least_out_in.false, c.least_out_in.ensures)) (slot_count_lem args.journal.now) c.if-count-gt4294967295.true

pub returns-then-is_whole : goal.returns-then-is_whole
returns-then-is_whole c =
    let args = c.args in let is_whole = c.is_whole in
    let if1 = c.if-is_whole in
    by_report args.journal.now args.store.now args.out.now args.report.now is_whole.ensures if1.true (omega (arith, c.if-out-least_out_in.false, c.least_out_in.ensures)) (slot_count_lem args.journal.now) c.if-count-gt4294967295.false

pub returns : goal.returns
returns c =
    let a = c.args in no_store a.journal.now a.store.now a.out.now a.report.now c.is_whole.ensures c.if-is_whole.false
