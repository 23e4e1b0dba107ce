-- Answers to the goals of `lent_list::are_placed`. Assumes nothing.
use native.Mathlib.Omega.{arith}
use Rattle.lent_list.proofs.Lengths.{lengths, slots_counted}
use Rattle.lent_list.proofs.Placed.{placed_starts, placed_ends, placed_next, placed_stops}
use Prim.Native.Nat.{◌-◌, ◌/◌}
use mathlib.Core.Path.{◌≡◌, ap, ◌∙◌}
use lib.ListN.{length}
use lib.Dec.{leb}
use Rattle.lent_list.proofs.are_placed.Goals as goal

pub overflow_sub-count : goal.overflow_sub-count
overflow_sub-count c = omega (arith, (lengths c.args.list.now c.requires).0)

pub loop-place-init : goal.loop-place-init
loop-place-init c = (omega arith, slots_counted _, placed_starts c.args.list.now c.args.records (slots_counted _))

pub is_placed-requires : goal.is_placed-requires
is_placed-requires c = (c.requires, rw (← c.loop-place.invariant.1) c.loop-place-test.true)

pub returns-then-not-is_placed : goal.returns-then-not-is_placed
returns-then-not-is_placed c = placed_stops _ _ c.loop-place.invariant.1 _ c.loop-place.invariant.2 c.loop-place-test.true c.is_placed.ensures c.if-not-is_placed.true

pub loop-place-preserved : goal.loop-place-preserved
loop-place-preserved c =
    let loop = c.loop-place in
    (omega arith, loop.invariant.1, placed_next _ _ loop.invariant.1 _ loop.invariant.2 c.loop-place-test.true c.is_placed.ensures c.if-not-is_placed.false)

pub returns : goal.returns
returns c =
    let l = c.loop-place in
    let e : (length c.args.list.now - 16) / 128 ≡ l.place = omega arith in
    ap (leb c.args.records) e ∙ placed_ends _ _ l.invariant.1 _ l.invariant.2 c.loop-place-test.false
