-- Answers to the goals of `plain_logs::reports`. Assumes nothing.
use Prim.Native.Nat.{◌+◌}
use mathlib.Core.Path.{refl}
use native.Mathlib.Omega.{arith}
use lib.ListN.{get_or}
use Rattle.fields.specs.Names.{name_of}
use Rattle.outgoing.proofs.Writing.{length_committed}
use Rattle.plain_logs.proofs.Saying.{report_end, report_again}
use Rattle.plain_logs.proofs.reports.Goals as goal

pub loop-k-init : goal.loop-k-init
loop-k-init c = let p = c.requires in record { up = p.1; long = refl; space = p.2; says = λ o' r y. y }

pub overflow_add-k : goal.overflow_add-k
overflow_add-k c = let p = c.requires in omega (arith, p.0.most, c.loop-k-test.true)

pub overflow_cast-k : goal.overflow_cast-k
overflow_cast-k c = let p = c.requires in record { fits = omega (arith, p.0.most, c.loop-k-test.true) }

pub committed-next-requires : goal.committed-next-requires
committed-next-requires c =
    let l = c.loop-k in
    let log = c.args.log in
    omega (arith, l.invariant.space, c.loop-k-test.true, length_committed (l.k + 1) (name_of (get_or log.items l.k (record { first = 0; second = 0; third = 0; fourth = 0 }))))

pub loop-k-preserved : goal.loop-k-preserved
loop-k-preserved c =
    let args = c.args in let pre = c.requires in
    let loop = c.loop-k in let loop-test = c.loop-k-test in
    report_again args.log pre.0 _ loop-test.true loop.invariant c.committed-next.ensures

pub shape_of-out : goal.shape_of-out
shape_of-out c = c.loop-k.invariant.long

pub returns : goal.returns
returns c = let v = c.loop-k in let a = c.args in v.invariant.says _ _ (report_end a.log _ v.k v.next c.loop-k-test.false)
