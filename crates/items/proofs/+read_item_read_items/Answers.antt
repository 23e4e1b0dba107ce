-- Answers to the goals of `items::read_item` and `items::read_items`. Assumes nothing.
use Rattle.std.proofs.Common.{refl, ◌≡◌, ◌+◌, ◌-◌, ◌≤◌, length, take, drop, arith, length-take, length-drop}
use Rattle.items.proofs.Reading.{first_cut, first_message, first_unreadable, first_stray, first_deep, first_broken, first_envelope, count_starts, items_end, items_bad, item_within, items_next}
use Rattle.items.proofs.+read_item_read_items.Goals as goal

pub read_item-returns-then-s-lt3 : goal.read_item-returns-then-s-lt3
read_item-returns-then-s-lt3 t c = first_cut _ _ (let h = c.if-s-lt3.true in omega arith)

pub read_item-returns-then-s-size : goal.read_item-returns-then-s-size
read_item-returns-then-s-size t c =
    first_cut _ _ (let h = c.if-s-size.true in let n = c.get-size.ensures.0 in omega arith)

pub read_item-returns-then-is_readable : goal.read_item-returns-then-is_readable
read_item-returns-then-is_readable t c =
    let e : (3 + c.get-size.result) - 3 ≡ c.get-size.result = omega arith in
    first_message _ _ c.get-size.ensures.0 (let h = c.if-s-size.false in omega arith) e c.is_readable.ensures c.if-tag-eq-MESSAGE_TAG.true c.if-is_readable.true

pub read_item-returns-then-tag-eq-MESSAGE_TAG : goal.read_item-returns-then-tag-eq-MESSAGE_TAG
read_item-returns-then-tag-eq-MESSAGE_TAG t c =
    let e : (3 + c.get-size.result) - 3 ≡ c.get-size.result = omega arith in
    first_unreadable _ _ c.get-size.ensures.0 (let h = c.if-s-size.false in omega arith) e c.is_readable.ensures c.if-tag-eq-MESSAGE_TAG.true c.if-is_readable.false

pub read_item-returns-then-tag-ne-ENVELOPE_TAG : goal.read_item-returns-then-tag-ne-ENVELOPE_TAG
read_item-returns-then-tag-ne-ENVELOPE_TAG t c =
    first_stray _ _ c.get-size.ensures.0 (let h = c.if-s-size.false in omega arith) c.if-tag-eq-MESSAGE_TAG.false c.if-tag-ne-ENVELOPE_TAG.true

pub read_item-returns-then-depth-eq0 : goal.read_item-returns-then-depth-eq0
read_item-returns-then-depth-eq0 t c =
    first_deep _ _ c.get-size.ensures.0 (let h = c.if-s-size.false in omega arith) c.if-tag-ne-ENVELOPE_TAG.false c.if-depth-eq0.true

pub read_item-read_items-requires : goal.read_item-read_items-requires
read_item-read_items-requires t c =
    let s = c.args.s.now in
    let h = c.if-s-size.false in
    let n : length (take ((3 + c.get-size.result) - 3) (drop 3 s)) ≡ c.get-size.result = simp (length-take, length-drop) (omega arith) in
    (let e = c.decreases in omega arith, tt)

pub read_item-returns-in_err-count : goal.read_item-returns-in_err-count
read_item-returns-in_err-count t c =
    let more = c.if-depth-eq0.false in
    let e : (3 + c.get-size.result) - 3 ≡ c.get-size.result = omega arith in
    rw c.from_residual.ensures (first_broken _ _ c.get-size.ensures.0 (let h = c.if-s-size.false in omega arith) e c.if-tag-ne-ENVELOPE_TAG.false (omega arith) c.read_items.ensures c.in_err-count.was)

pub read_item-returns : goal.read_item-returns
read_item-returns t c =
    let more = c.if-depth-eq0.false in
    let e : (3 + c.get-size.result) - 3 ≡ c.get-size.result = omega arith in
    first_envelope _ _ c.get-size.ensures.0 (let h = c.if-s-size.false in omega arith) e c.if-tag-ne-ENVELOPE_TAG.false (omega arith) c.read_items.ensures c.in_ok-count.was

pub read_items-loop-at-init : goal.read_items-loop-at-init
read_items-loop-at-init t c = (omega arith, omega arith, count_starts _)

pub read_items-read_item-requires : goal.read_items-read_item-requires
read_items-read_item-requires t c =
    let n : length (take (length c.args.s.now - c.loop-at.at) (drop c.loop-at.at c.args.s.now)) ≤ length c.args.s.now = simp (length-take, length-drop) (omega arith) in
    (let e = c.decreases in omega arith, tt)

pub read_items-returns-in_err-item : goal.read_items-returns-in_err-item
read_items-returns-in_err-item t c =
    rw c.from_residual.ensures (items_bad _ _ _ _ c.loop-at.invariant.2 c.loop-at-test.true refl c.read_item.ensures c.in_err-item.was)

pub read_items-overflow_add-messages : goal.read_items-overflow_add-messages
read_items-overflow_add-messages t c =
    let w = item_within _ _ _ _ c.loop-at.invariant.2 c.loop-at-test.true refl c.read_item.ensures c.in_ok-item.was in
    omega arith

pub read_items-loop-at-preserved : goal.read_items-loop-at-preserved
read_items-loop-at-preserved t c =
    let w = item_within _ _ _ _ c.loop-at.invariant.2 c.loop-at-test.true refl c.read_item.ensures c.in_ok-item.was in
    (omega arith, omega arith, items_next _ _ _ _ c.loop-at.invariant.2 c.loop-at-test.true refl c.read_item.ensures c.in_ok-item.was)

pub read_items-returns : goal.read_items-returns
read_items-returns t c = items_end _ _ _ _ c.loop-at.invariant.2 c.loop-at-test.false (omega arith)
