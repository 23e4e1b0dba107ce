-- `journal_replay` meets its contract, test by test. Assumes nothing.
use Prim.Native.Nat.{ℕ, ◌+◌}
use mathlib.Core.Path.{refl, ap}
use native.Mathlib.Omega.{arith}
use Rattle.replay.proofs.Reports.{lengths_parts, no_lengths, no_form, ends_well, ends_stopped}
use Rattle.replay.proofs.journal_replay.Goals as goal

pub well_formed-requires : goal.well_formed-requires
well_formed-requires c =
    let args = c.args in
    let p = lengths_parts args.journal.now args.store.now args.out.now args.report.now c.has_lengths.ensures c.if-has_lengths.true in p.0

pub replay_slots-end-requires : goal.replay_slots-end-requires
replay_slots-end-requires c =
    let args = c.args in
    let has-lengths = c.has_lengths in
    let p = lengths_parts args.journal.now args.store.now args.out.now args.report.now has-lengths.ensures c.if-has_lengths.true in (p.1, p.2)

pub write_head-requires : goal.write_head-requires
write_head-requires c =
    let args = c.args in
    let has-lengths = c.has_lengths in
    let replay-slots = c.replay_slots-end in
    let p = lengths_parts args.journal.now args.store.now args.out.now args.report.now has-lengths.ensures c.if-has_lengths.true in omega (arith, replay-slots.auto.report, p.2)

pub overflow_add-result : goal.overflow_add-result
overflow_add-result c =
    let args = c.args in
    let has-lengths = c.has_lengths in
    let replay-slots = c.replay_slots-end in
    let p = lengths_parts args.journal.now args.store.now args.out.now args.report.now has-lengths.ensures c.if-has_lengths.true in omega (arith, c.answer.ensures, replay-slots.ensures.bounded.place, p.1)

pub returns-then-end : goal.returns-then-end
returns-then-end c =
    let args = c.args in
    let has-lengths = c.has_lengths in
    let well-formed = c.well_formed-then-has_lengths in
    let replay-slots = c.replay_slots-end in
    let write-head = c.write_head in
    ends_stopped
    args.journal.now
    args.store.now
    args.out.now
    args.report.now
    has-lengths.ensures
    c.if-has_lengths.true
    well-formed.ensures
    c.if-well_formed.true
    replay-slots.ensures
    write-head.ensures
    c.if-end.true
    (ap (λ (x : ℕ). x + c.replay_slots-end.result.place) c.answer.ensures)

pub returns-then-well_formed : goal.returns-then-well_formed
returns-then-well_formed c =
    let args = c.args in
    let has-lengths = c.has_lengths in
    let well-formed = c.well_formed-then-has_lengths in
    let replay-slots = c.replay_slots-end in
    let write-head = c.write_head in
    ends_well args.journal.now args.store.now args.out.now args.report.now has-lengths.ensures c.if-has_lengths.true well-formed.ensures c.if-well_formed.true replay-slots.ensures write-head.ensures c.if-end.false refl

pub returns-then-has_lengths : goal.returns-then-has_lengths
returns-then-has_lengths c =
    let args = c.args in
    let has-lengths = c.has_lengths in
    no_form args.journal.now args.store.now args.out.now args.report.now has-lengths.ensures c.if-has_lengths.true c.well_formed-then-has_lengths.ensures c.if-well_formed.false c.answer-then-has_lengths.ensures

pub returns : goal.returns
returns c =
    let args = c.args in
    no_lengths args.journal.now args.store.now args.out.now args.report.now c.has_lengths.ensures c.if-has_lengths.false c.answer-2.ensures
