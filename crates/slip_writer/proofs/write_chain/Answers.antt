-- Answers to the goals of `slip_writer::write_chain`. Assumes nothing.
use Prim.Native.Nat.{◌+◌, ◌-◌}
use mathlib.Core.Path.{◌≡◌}
use native.Mathlib.Omega.{arith}
use Rattle.outgoing.proofs.Writing.{says_length}
use Rattle.store.proofs.Forms.{form_log}
use Rattle.slip_writer.proofs.Chains.{far_none, far_missing, far_more, far_all, link_within, link_propose, link_length}
use Rattle.slip_writer.proofs.write_chain.Goals as goal

pub loop-below-init : goal.loop-below-init
loop-below-init c = (omega arith, c.requires.3, far_none _ _ _ _)

pub logged_at-name-requires : goal.logged_at-name-requires
logged_at-name-requires c =
    let pre = c.requires in
    (pre.0, omega (arith, pre.2, c.loop-below.invariant.0))

pub logged_at-parent-requires : goal.logged_at-parent-requires
logged_at-parent-requires c =
    let pre = c.requires in
    (pre.0, omega (arith, pre.2, c.loop-below.invariant.0))

pub overflow_cast-left : goal.overflow_cast-left
overflow_cast-left c =
    let pre = c.requires in
    omega (arith, pre.2, c.loop-below.invariant.0, form_log _ pre.0)

pub find_link-requires : goal.find_link-requires
find_link-requires c =
    let pre = c.requires in
    (pre.0, pre.1)

pub shape_of-out-in_default : goal.shape_of-out-in_default
shape_of-out-in_default c = says_length c.loop-below.invariant.2.says

pub returns-in_default : goal.returns-in_default
returns-in_default c =
    let l = c.loop-below in
    let t = c.loop-below-test.true in
    let e : l.below - 1 + 1 ≡ l.below = omega arith in
    far_missing _ _ t (rw e at c.logged_at-name.ensures) c.logged_at-parent.ensures (rw e at c.find_link.ensures) l.invariant.2 c.in_default.is

pub write_entry-next-requires : goal.write_entry-next-requires
write_entry-next-requires c =
    let pre = c.requires in
    let l = c.loop-below in
    let t = c.loop-below-test.true in
    let e : l.below - 1 + 1 ≡ l.below = omega arith in
    let u = rw e at c.logged_at-name.ensures in
    let v = c.logged_at-parent.ensures in
    let f = rw e at c.find_link.ensures in
    let q = c.in-Some.is in
    (pre.0, link_within _ _ t u v f q, link_propose _ _ t u v f q, omega (arith, t, l.invariant.1, says_length l.invariant.2.says))

pub loop-below-preserved : goal.loop-below-preserved
loop-below-preserved c =
    let l = c.loop-below in
    let t = c.loop-below-test.true in
    let e : l.below - 1 + 1 ≡ l.below = omega arith in
    let u = rw e at c.logged_at-name.ensures in
    let v = c.logged_at-parent.ensures in
    let f = rw e at c.find_link.ensures in
    let q = c.in-Some.is in
    let w = c.write_entry-next.ensures in
    (omega (arith, l.invariant.0), omega (arith, t, l.invariant.1, w.ends, link_length _ _ t u v f q), far_more _ _ t u v f q l.invariant.2 w)

pub shape_of-out : goal.shape_of-out
shape_of-out c = says_length c.loop-below.invariant.2.says

pub returns : goal.returns
returns c = far_all _ c.loop-below.invariant.2 c.loop-below-test.false
