-- Answers to the goals of `envelope::list_messages`. Assumes nothing.
use Prim.Native.Nat.{◌+◌}
use mathlib.Core.Path.{ap}
use native.Mathlib.Omega.{arith}
use lib.ListN.{length}
use Rattle.fields.proofs.Laws.{length_put}
use Rattle.envelope.proofs.Listing.{walk_starts, walk_ends, walk_envelope, message_sizes, walk_message}
use Rattle.envelope.proofs.list_messages.Goals as goal

pub loop-at-init : goal.loop-at-init
loop-at-init c = walk_starts _ _ c.type_inv.s c.requires.0

pub overflow_add-from : goal.overflow_add-from
overflow_add-from c =
    let l = c.loop-at.invariant in
    omega (arith, l.few, l.within)

pub loop-at-smaller-then-s-at-eq-ENVELOPE_TAG : goal.loop-at-smaller-then-s-at-eq-ENVELOPE_TAG
loop-at-smaller-then-s-at-eq-ENVELOPE_TAG c =
    let l = c.loop-at.invariant in
    let w = walk_envelope l c.loop-at-test.true c.if-s-at-eq-ENVELOPE_TAG.true in
    omega (arith, w.within)

pub loop-at-preserved-then-s-at-eq-ENVELOPE_TAG : goal.loop-at-preserved-then-s-at-eq-ENVELOPE_TAG
loop-at-preserved-then-s-at-eq-ENVELOPE_TAG c = walk_envelope c.loop-at.invariant c.loop-at-test.true c.if-s-at-eq-ENVELOPE_TAG.true

pub overflow_add-at : goal.overflow_add-at
overflow_add-at c =
    let l = c.loop-at.invariant in
    let n = message_sizes l c.loop-at-test.true c.if-s-at-eq-ENVELOPE_TAG.false in
    omega (arith, l.few)

pub get-size-requires : goal.get-size-requires
get-size-requires c =
    let l = c.loop-at.invariant in
    let n = message_sizes l c.loop-at-test.true c.if-s-at-eq-ENVELOPE_TAG.false in
    (omega arith, omega arith)

pub put-requires : goal.put-requires
put-requires c =
    let l = c.loop-at.invariant in
    let n = message_sizes l c.loop-at-test.true c.if-s-at-eq-ENVELOPE_TAG.false in
    omega (arith, l.few, l.room, l.same, c.requires.1)

pub overflow_add-to : goal.overflow_add-to
overflow_add-to c =
    let l = c.loop-at.invariant in
    let n = message_sizes l c.loop-at-test.true c.if-s-at-eq-ENVELOPE_TAG.false in
    omega (arith, l.few, l.room)

pub put-requires-in-loop-at : goal.put-requires-in-loop-at
put-requires-in-loop-at c =
    let pre = c.requires in
    let loop = c.loop-at in
    let loop-test = c.loop-at-test in let if1 = c.if-s-at-eq-ENVELOPE_TAG in
    let put = c.put in
    let l = loop.invariant in
    let n = message_sizes l loop-test.true if1.false in
    omega (arith, l.few, l.room, l.same, pre.1, ap length put.ensures, length_put loop.list loop.to 4 (loop.at + 3))

pub overflow_add-at-in-loop-at : goal.overflow_add-at-in-loop-at
overflow_add-at-in-loop-at c =
    let l = c.loop-at.invariant in
    let n = message_sizes l c.loop-at-test.true c.if-s-at-eq-ENVELOPE_TAG.false in
    omega (arith, l.few, c.get-size.ensures.0)

pub overflow_add-to-in-loop-at : goal.overflow_add-to-in-loop-at
overflow_add-to-in-loop-at c =
    let l = c.loop-at.invariant in
    let n = message_sizes l c.loop-at-test.true c.if-s-at-eq-ENVELOPE_TAG.false in
    omega (arith, l.few, l.room)

pub loop-at-smaller : goal.loop-at-smaller
loop-at-smaller c =
    let l = c.loop-at.invariant in
    let n = message_sizes l c.loop-at-test.true c.if-s-at-eq-ENVELOPE_TAG.false in
    omega (arith, c.get-size.ensures.0)

pub loop-at-preserved : goal.loop-at-preserved
loop-at-preserved c =
    let loop = c.loop-at in
    let loop-test = c.loop-at-test in
    let if1 = c.if-s-at-eq-ENVELOPE_TAG in let get = c.get-size in
    let put = c.put in
    walk_message loop.invariant loop-test.true if1.false get.ensures.0 put.ensures c.put-in-loop-at.ensures

pub shape_of-list : goal.shape_of-list
shape_of-list c = c.loop-at.invariant.same

pub returns : goal.returns
returns c = walk_ends c.loop-at.invariant c.loop-at-test.false
