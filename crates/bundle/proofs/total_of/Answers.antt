-- Answers to the goals of `bundle::total_of`. Assumes nothing.
use mathlib.Core.Path.{refl}
use native.Mathlib.Omega.{arith}
use Rattle.bundle.proofs.Totals.{total_starts, total_ends, total_not, total_next, total_over}
use Rattle.bundle.proofs.total_of.Goals as goal

pub loop-k-init : goal.loop-k-init
loop-k-init c = (omega arith, refl, omega arith, total_starts _ _ refl)

pub returns-then-not-is_message_at : goal.returns-then-not-is_message_at
returns-then-not-is_message_at c =
    let loop = c.loop-k in let loop-test = c.loop-k-test in let get = c.get-offset in
    total_not _ _ _ _ _ loop.invariant.3 loop-test.true get.ensures.0 c.get-size.ensures.0 c.is_message_at.ensures c.if-not-is_message_at.true

pub returns-then-total-gt-MOST_BYTES : goal.returns-then-total-gt-MOST_BYTES
returns-then-total-gt-MOST_BYTES c =
    let loop = c.loop-k in let loop-test = c.loop-k-test in
    let get = c.get-offset in let get2 = c.get-size in
    total_over _ _ _ _ _ loop.invariant.3 loop-test.true get.ensures.0 get2.ensures.0 c.is_message_at.ensures c.if-not-is_message_at.false c.if-total-gt-MOST_BYTES.true

pub loop-k-preserved : goal.loop-k-preserved
loop-k-preserved c =
    let loop = c.loop-k in let loop-test = c.loop-k-test in
    let get = c.get-offset in let get2 = c.get-size in
    let l = loop.invariant in
    (omega arith, l.1, c.if-total-gt-MOST_BYTES.false, total_next _ _ _ _ _ loop.invariant.3 loop-test.true get.ensures.0 get2.ensures.0 c.is_message_at.ensures c.if-not-is_message_at.false)

pub returns : goal.returns
returns c =
    let l = c.loop-k.invariant in
    total_ends _ _ _ _ _ l.3 c.loop-k-test.false l.2
