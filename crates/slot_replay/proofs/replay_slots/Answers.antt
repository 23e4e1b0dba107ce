-- Answers to the goals of `slot_replay::replay_slots`. Assumes nothing.
use Prim.Native.Nat.{◌+◌, ◌-◌, ◌*◌, ◌/◌}
use mathlib.Core.Path.{◌≡◌, refl}
use native.Mathlib.Omega.{arith}
use lib.ListN.{length, take, drop}
use Rattle.slots.specs.Slots.{slot_length, judged}
use Rattle.slot_reader.specs.Meaning.{input_place, slot_of}
use Rattle.journal.specs.Journal.{slot_at}
use Rattle.journal.proofs.Rooms.{slot_count_lem}
use Rattle.slot_replay.proofs.Turns.{at_start, at_end, at_blank, at_torn, at_bad, at_other, at_untaken, at_taken, bounded_at}
use borrow.Author.Rules.{rules}
use Rattle.slot_replay.proofs.replay_slots.Goals as goal
use Rattle.slot_replay.proofs.replay_slots.Goals.{in-Torn, in-Whole+else-sequence-records+else-not-is_taken}

pub loop-place-init : goal.loop-place-init
loop-place-init c =
    let a = c.args in (search rules, search rules, search rules, refl, refl, refl, at_start a.journal.now a.store.now a.out.now a.report.now)

pub judge_at-requires : goal.judge_at-requires
judge_at-requires c = omega (arith, slot_count_lem c.args.journal.now)

pub returns-in-Blank : goal.returns-in-Blank
returns-in-Blank c =
    let a = c.args in
    let l = c.loop-place in
    let j = a.journal.now in
    let s = c.judge_at.ensures.is in
    record { is = at_blank j _ l.records l.place (length j / 128) l.torn l.store l.out l.report l.invariant.6 c.loop-place-test.true _ s c.in-Blank.is; bounded = bounded_at j l.invariant.1 l.invariant.2 l.invariant.0 }

pub put-requires : goal.put-requires
put-requires c =
    let a = c.args in
    let l = c.loop-place in
    let j = a.journal.now in
    omega (arith, slot_count_lem j, c.requires.1, l.invariant.2, l.invariant.5, c.loop-place-test.true)

pub returns-in-Bad : goal.returns-in-Bad
returns-in-Bad c =
    let a = c.args in
    let l = c.loop-place in
    let j = a.journal.now in
    let s = c.judge_at.ensures.is in
    record { is = at_bad j _ l.records l.place (length j / 128) l.torn l.store l.out l.report l.invariant.6 c.loop-place-test.true _ s c.in-Bad.is; bounded = bounded_at j l.invariant.1 l.invariant.2 l.invariant.0 }

pub returns-then-sequence-records : goal.returns-then-sequence-records
returns-then-sequence-records c =
    let a = c.args in
    let l = c.loop-place in
    let j = a.journal.now in
    let s = c.judge_at.ensures.is in
    record { is = at_other j _ l.records l.place (length j / 128) l.torn l.store l.out l.report l.invariant.6 c.loop-place-test.true _ s c.in-Whole.is c.if-sequence-records.true; bounded = bounded_at j l.invariant.1 l.invariant.2 l.invariant.0 }

pub loop-place-preserved : goal.loop-place-preserved
loop-place-preserved c =
    let a = c.args in
    let l = c.loop-place in
    let j = a.journal.now in
    elim c.match-judge_at.branch [
      | in-Torn w ↦ rw (w.store-is, w.out-is, w.report-is, w.records-is, w.torn-is) (
        omega arith,
        omega arith,
        omega arith,
        l.invariant.3,
        l.invariant.4,
        omega (arith, w.put.auto.s, l.invariant.5),
        at_torn j _ l.records l.place (length j / 128) l.torn l.store l.out l.report l.invariant.6 c.loop-place-test.true _ c.judge_at.ensures.is w.in-Torn.is (omega (arith, slot_count_lem j, c.requires.0, c.loop-place-test.true)) w.put.ensures,
      )
      | in-Whole+else-sequence-records+else-not-is_taken w ↦ rw (w.store-is, w.out-is, w.report-is, w.records-is, w.torn-is) (
        omega arith,
        omega arith,
        omega arith,
        omega (arith, w.hand-answer.auto.store, l.invariant.3),
        omega (arith, w.hand-answer.auto.out, l.invariant.4),
        l.invariant.5,
        at_taken j _ l.records l.place (length j / 128) l.torn l.store l.out l.report l.invariant.6 c.loop-place-test.true _ c.judge_at.ensures.is w.in-Whole.is w.hand-answer.ensures w.if-sequence-records.false w.is_taken.ensures w.if-not-is_taken.false,
      )
    ]

pub returns-then-not-is_taken : goal.returns-then-not-is_taken
returns-then-not-is_taken c =
    let a = c.args in
    let l = c.loop-place in
    let j = a.journal.now in
    record {
      is = at_untaken j _ l.records l.place (length j / 128) l.torn l.store l.out l.report l.invariant.6 c.loop-place-test.true _ c.judge_at.ensures.is c.in-Whole.is c.hand-answer.ensures c.if-sequence-records.false c.is_taken.ensures c.if-not-is_taken.true;
      bounded = bounded_at j l.invariant.1 l.invariant.2 l.invariant.0;
    }

pub returns : goal.returns
returns c =
    let a = c.args in
    let l = c.loop-place in
    let j = a.journal.now in
    let e : length j / 128 ≡ l.place = omega arith in
    record {
      is = at_end j _ l.records l.place (length j / 128) l.torn l.store l.out l.report l.invariant.6 e;
      bounded = bounded_at j (omega arith) (omega arith) (omega arith);
    }
