-- Answers to the goals of `journal::find_room`. Assumes nothing.
use native.Mathlib.Omega.{arith}
use Rattle.journal.proofs.Rooms.{slot_count_lem, room_starts, room_ends, at_blank, at_torn, at_bad, at_other, at_next}
use borrow.Author.Rules.{rules}
use Rattle.journal.proofs.find_room.Goals as goal
use Rattle.journal.proofs.find_room.Goals.{in-Torn, in-Whole+else-sequence-records}

pub loop-place-init : goal.loop-place-init
loop-place-init c =
    (search rules, search rules, slot_count_lem _, room_starts c.args.journal.now (slot_count_lem _))

pub judge_at-requires : goal.judge_at-requires
judge_at-requires c = omega (arith, c.loop-place.invariant.2)

pub returns-in-Blank : goal.returns-in-Blank
returns-in-Blank c =
    let j = c.args.journal.now in
    let l = c.loop-place in
    let s = c.judge_at.ensures.is in
    at_blank j l.records l.place _ l.invariant.3 c.loop-place-test.true _ s c.in-Blank.is l.invariant.2 l.invariant.1

pub returns-in-Bad : goal.returns-in-Bad
returns-in-Bad c =
    let j = c.args.journal.now in
    let l = c.loop-place in
    let s = c.judge_at.ensures.is in
    at_bad j l.records l.place _ l.invariant.3 c.loop-place-test.true _ s c.in-Bad.is

pub returns-then-sequence-records : goal.returns-then-sequence-records
returns-then-sequence-records c =
    let j = c.args.journal.now in
    let l = c.loop-place in
    let s = c.judge_at.ensures.is in
    at_other j l.records l.place _ l.invariant.3 c.loop-place-test.true _ s c.in-Whole.is c.if-sequence-records.true

pub loop-place-preserved : goal.loop-place-preserved
loop-place-preserved c =
    let j = c.args.journal.now in
    let l = c.loop-place in
    let s = c.judge_at.ensures.is in
    elim c.match-judge_at.branch [
      | in-Torn w ↦ (omega arith, rw w.records-is (omega arith), l.invariant.2, rw w.records-is (at_torn j l.records l.place _ l.invariant.3 c.loop-place-test.true _ s w.in-Torn.is))
      | in-Whole+else-sequence-records w ↦ (
        omega arith,
        rw w.records-is (omega arith),
        l.invariant.2,
        rw w.records-is (at_next j l.records l.place _ l.invariant.3 c.loop-place-test.true _ s w.in-Whole.is w.if-sequence-records.false),
      )
    ]

pub returns : goal.returns
returns c =
    let l = c.loop-place in room_ends _ _ _ _ l.invariant.3 c.loop-place-test.false
