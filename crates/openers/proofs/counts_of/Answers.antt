-- Answers to the goals of `openers::counts_of`. Assumes nothing.
use Prim.Native.Nat.{◌+◌, ◌-◌}
use mathlib.Core.Path.{◌≡◌, refl}
use native.Mathlib.Omega.{arith}
use lib.ListN.{length-set}
use Rattle.laws.proofs.Bounds.{tallies_most}
use Rattle.store.specs.Layout.{size_in}
use Rattle.store.specs.Decode.{opener_at}
use Rattle.tallies.proofs.Values.{number_some, number_none}
use Rattle.openers.proofs.Counting.{counted_start, counted_more, counted_same, counted_most, counted_whole, opener_small}
use Rattle.openers.proofs.counts_of.Goals as goal

pub loop-i-init : goal.loop-i-init
loop-i-init c = (omega arith, refl, counted_start _ _ _ refl)

pub opener_at-requires : goal.opener_at-requires
opener_at-requires c =
    let k = c.requires in (k.long, omega (arith, k.room, c.loop-i.invariant.0, c.loop-i-test.true))

pub bounds-counts-from : goal.bounds-counts-from
bounds-counts-from c =
    let l = c.loop-i in
    let b = c.args.store.now in
    let number : opener_at b (l.i - 1) ≡ c.in-Some.author + 1 = number_some c.opener_at.result _ c.opener_at.ensures _ c.in-Some.is in
    let small = opener_small b c.type_inv.store (l.i - 1) in
    omega (arith, c.from.ensures, l.invariant.1)

pub overflow_add-counts-in-Some : goal.overflow_add-counts-in-Some
overflow_add-counts-in-Some c =
    let l = c.loop-i in
    let b = c.args.store.now in
    let number : opener_at b (l.i - 1) ≡ c.in-Some.author + 1 = number_some c.opener_at.result _ c.opener_at.ensures _ c.in-Some.is in
    let small = opener_small b c.type_inv.store (l.i - 1) in
    let m = counted_most b l.i (c.args.count - l.i) l.counts l.invariant.2 (c.from.result + 1) (omega arith) (omega (arith, c.from.ensures)) in
    record { fits = omega (arith, c.requires.room, tallies_most (size_in b)) }

pub bounds-counts-from-in-Some : goal.bounds-counts-from-in-Some
bounds-counts-from-in-Some c =
    let l = c.loop-i in
    let b = c.args.store.now in
    let number : opener_at b (l.i - 1) ≡ c.in-Some.author + 1 = number_some c.opener_at.result _ c.opener_at.ensures _ c.in-Some.is in
    let small = opener_small b c.type_inv.store (l.i - 1) in
    omega (arith, c.from.ensures, l.invariant.1)

pub loop-i-preserved-in-Some : goal.loop-i-preserved-in-Some
loop-i-preserved-in-Some c =
    let l = c.loop-i in
    let a = c.args in
    let number : opener_at a.store.now (l.i - 1) ≡ c.in-Some.author + 1 = number_some c.opener_at.result _ c.opener_at.ensures _ c.in-Some.is in
    let small = opener_small a.store.now c.type_inv.store (l.i - 1) in
    (omega (arith, l.invariant.0), simp length-set l.invariant.1, counted_more a.store.now l.i a.count l.counts c.loop-i-test.true l.invariant.0 (c.from.result + 1) (omega (arith, c.from.ensures)) l.invariant.2 l.invariant.1 (omega arith) (omega (arith, c.from.ensures)))

pub loop-i-preserved : goal.loop-i-preserved
loop-i-preserved c =
    let l = c.loop-i in
    let a = c.args in
    let number : opener_at a.store.now (l.i - 1) ≡ 0 = number_none c.opener_at.result _ c.opener_at.ensures c.in_default.is in
    (omega (arith, l.invariant.0), l.invariant.1, counted_same a.store.now l.i a.count l.counts c.loop-i-test.true l.invariant.0 0 (omega arith) l.invariant.2 (omega arith))

pub returns : goal.returns
returns c =
    let l = c.loop-i in
    let a = c.args in
    counted_whole a.store.now l.i a.count l.counts c.loop-i-test.false c.loop-i.invariant.2
