-- Answers to the goals of `bundle::write_bundle`. Assumes nothing.
use Prim.Native.Nat.{◌+◌, ◌-◌, ◌≤◌}
use mathlib.Core.Path.{◌≡◌, refl, ap, ◌∙◌}
use native.Mathlib.Omega.{arith}
use lib.ListN.{length, take, drop, length-take, length-drop}
use Rattle.fields.proofs.Laws.{length_put}
use Rattle.bundle.proofs.Written.{total_room, walk_starts, walk_ends, next_sizes, walk_next, whole_written}
use Rattle.bundle.proofs.write_bundle.Goals as goal

pub overflow_add-total : goal.overflow_add-total
overflow_add-total c =
    let t = total_room c.requires in
    omega arith

pub overflow_sub-total : goal.overflow_sub-total
overflow_sub-total c =
    let t = total_room c.requires in
    omega arith

pub put-requires : goal.put-requires
put-requires c = omega (arith, c.requires.room)

pub loop-k-init : goal.loop-k-init
loop-k-init c = (omega arith, refl, walk_starts c.requires refl)

pub overflow_add-end : goal.overflow_add-end
overflow_add-end c =
    let l = c.loop-k.invariant in
    let z = next_sizes l.2 c.loop-k-test.true in
    omega (arith, c.get-offset.ensures.0, c.get-size.ensures.0)

pub overflow_add-size : goal.overflow_add-size
overflow_add-size c =
    let l = c.loop-k.invariant in
    let z = next_sizes l.2 c.loop-k-test.true in
    omega (arith, c.get-size.ensures.0)

pub put-requires-in-loop-k : goal.put-requires-in-loop-k
put-requires-in-loop-k c =
    let args = c.args in let pre = c.requires in
    let put = c.put in let loop = c.loop-k in
    let loop-test = c.loop-k-test in
    let l = loop.invariant in
    let z = next_sizes l.2 loop-test.true in
    omega (arith, pre.room, l.2.same, ap length put.ensures, length_put args.out.now 0 3 (0x30_0000 + c.args.total - 3))

pub overflow_add-at : goal.overflow_add-at
overflow_add-at c =
    let l = c.loop-k.invariant in
    let z = next_sizes l.2 c.loop-k-test.true in
    omega arith

pub slice_bounds-copy-end : goal.slice_bounds-copy-end
slice_bounds-copy-end c =
    let l = c.loop-k.invariant in
    let z = next_sizes l.2 c.loop-k-test.true in
    omega (arith, c.get-offset.ensures.0, c.get-size.ensures.0)

pub copy-requires : goal.copy-requires
copy-requires c =
    let a = c.args in
    let pre = c.requires in let put = c.put in
    let loop = c.loop-k in
    let loop-test = c.loop-k-test in let get = c.get-offset in
    let get2 = c.get-size in let put2 = c.put-in-loop-k in
    let l = loop.invariant in
    let z = next_sizes l.2 loop-test.true in
    let o = get.result in
    let n = get2.result in
    let m : length (take ((o + n) - o) (drop o a.bytes.now)) ≤ n = simp (length-take, length-drop) (omega arith) in
    omega (arith, pre.room, l.2.same, ap length put.ensures, length_put a.out.now 0 3 (0x30_0000 + a.total - 3), ap length put2.ensures, length_put loop.out loop.at 3 (0x31_0000 + n), get2.ensures.0)

pub overflow_add-at-in-loop-k : goal.overflow_add-at-in-loop-k
overflow_add-at-in-loop-k c =
    let l = c.loop-k.invariant in
    let z = next_sizes l.2 c.loop-k-test.true in
    omega arith

pub overflow_add-at-in-loop-k-2 : goal.overflow_add-at-in-loop-k-2
overflow_add-at-in-loop-k-2 c =
    let l = c.loop-k.invariant in
    let z = next_sizes l.2 c.loop-k-test.true in
    omega (arith, c.get-size.ensures.0)

pub loop-k-preserved : goal.loop-k-preserved
loop-k-preserved c =
    let loop = c.loop-k in
    let loop-test = c.loop-k-test in
    let get = c.get-offset in
    let get2 = c.get-size in let put2 = c.put-in-loop-k in
    let l = loop.invariant in
    let o = get.result in
    let n = get2.result in
    (omega arith, l.1, walk_next l.2 loop-test.true get.ensures.0 get2.ensures.0 (let e : (o + n) - o ≡ n = omega arith in e) put2.ensures c.copy.ensures)

pub shape_of-out : goal.shape_of-out
shape_of-out c =
    let a = c.args in
    c.loop-k.invariant.2.same ∙ ap length c.put.ensures ∙ length_put a.out.now 0 3 (0x30_0000 + a.total - 3)

pub returns : goal.returns
returns c =
    whole_written c.requires c.put.ensures (walk_ends c.loop-k.invariant.2 c.loop-k-test.false)
