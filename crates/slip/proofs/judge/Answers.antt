-- Answers to the goals of `slip::judge`. Assumes nothing.
use Prim.Native.Nat.{◌+◌, ◌-◌}
use mathlib.Core.Path.{◌≡◌, ap}
use native.Mathlib.Omega.{arith}
use Rattle.slip_entries.specs.Meaning.{link_of}
use Rattle.slip_entries.proofs.Parents.{parent_room}
use Rattle.slip.proofs.Judging.{name_short, name_other, judge_starts, judge_ends, judge_extra, judge_broken, judge_next}
use borrow.Author.Rules.{rules}
use Rattle.slip.proofs.judge.Goals as goal

pub returns-then-slip-lt-NAME : goal.returns-then-slip-lt-NAME
returns-then-slip-lt-NAME c = name_short _ _ c.if-slip-lt-NAME.true

pub returns-then-get-ne4194336 : goal.returns-then-get-ne4194336
returns-then-get-ne4194336 c = name_other _ _ c.if-slip-lt-NAME.false c.get.ensures.0 c.if-get-ne4194336.true

pub loop-below-init : goal.loop-below-init
loop-below-init c =
    (omega arith, c.if-slip-lt-NAME.false, judge_starts _ _ c.if-slip-lt-NAME.false c.get.ensures.0 c.if-get-ne4194336.false c.get_name-name.ensures.0 c.top_height-below.ensures)

pub parent_at-requires : goal.parent_at-requires
parent_at-requires c = c.loop-below.invariant.1

pub overflow_add-at : goal.overflow_add-at
overflow_add-at c =
    let r = parent_room _ _ _ _ _ _ c.parent_at.ensures (ap link_of c.in-Some.is) in
    search (rules, r)

pub overflow_add-place : goal.overflow_add-place
overflow_add-place c =
    let r = parent_room _ _ _ _ _ _ c.parent_at.ensures (ap link_of c.in-Some.is) in
    search (rules, r)

pub loop-below-preserved : goal.loop-below-preserved
loop-below-preserved c =
    let l = c.loop-below in
    let e : l.below - 1 + 1 ≡ l.below = omega (arith, c.loop-below-test.true) in
    let p = rw e at c.parent_at.ensures in
    let q = ap link_of c.in-Some.is in
    (omega (arith, l.invariant.0), parent_room _ _ _ _ _ _ p q, judge_next _ _ _ _ _ _ l.invariant.2 l.invariant.0 c.loop-below-test.true p q)

pub returns-in_default : goal.returns-in_default
returns-in_default c =
    let l = c.loop-below in
    let e : l.below - 1 + 1 ≡ l.below = omega (arith, c.loop-below-test.true) in
    judge_broken _ _ _ _ _ _ l.invariant.2 l.invariant.0 c.loop-below-test.true (rw e at c.parent_at.ensures) (ap link_of c.in_default.is)

pub returns-then-at-slip : goal.returns-then-at-slip
returns-then-at-slip c =
    let l = c.loop-below in
    judge_ends _ _ _ _ _ _ l.invariant.2 l.invariant.0 c.loop-below-test.false c.if-at-slip.true

pub returns : goal.returns
returns c =
    let l = c.loop-below in
    judge_extra _ _ _ _ _ _ l.invariant.2 l.invariant.0 c.loop-below-test.false c.if-at-slip.false
