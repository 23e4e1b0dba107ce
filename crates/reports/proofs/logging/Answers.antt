-- Answers to the goals of `reports::logging`. Assumes nothing.
use Rattle.fields.specs.Names.{name_of}
use Rattle.reports.proofs.Names.{enough_few, logged_none, logged_next, logged_size, logged_count, logged_name, logged_ends, logged_done, committed_bytes}
use Rattle.store.proofs.Forms.{form_long, form_statements}
use native.Mathlib.Omega.{arith}
use Prim.Native.Nat.{◌+◌}
use mathlib.Core.Path.{ap}
use Rattle.rules.specs.Limits.{most_statements}
use Rattle.moments.proofs.Sizes.{same_long}
use Rattle.outgoing.proofs.Writing.{says_length}
use Rattle.reports.proofs.logging.Goals as goal

pub get_count-logged-requires : goal.get_count-logged-requires
get_count-logged-requires c =
    omega (arith, form_long _ c.requires.form)

pub loop-k-init : goal.loop-k-init
loop-k-init c =
    let a = c.args in let p = c.requires in
    (omega (arith, c.get_count-logged.ensures, p.more), logged_none a.store.now a.gained.now a.out.now a.at _ c.get_count-logged.ensures.0 p.form)

pub offset_bounds-gained-k : goal.offset_bounds-gained-k
offset_bounds-gained-k c =
    omega (arith, enough_few c.requires, c.loop-k-test.true)

pub bounds-gained-k : goal.bounds-gained-k
bounds-gained-k c =
    let pre = c.requires in
    omega (arith, enough_few pre, pre.long, c.loop-k-test.true)

pub statement_at-x-requires : goal.statement_at-x-requires
statement_at-x-requires c =
    let pre = c.requires in
    let loop = c.loop-k in
    (form_long _ loop.invariant.1.left.form, omega (arith, pre.stored loop.k loop.invariant.1.low c.loop-k-test.true, form_statements _ pre.form, ap most_statements (logged_size _ _ _ _ loop.invariant.1)))

pub append_name-requires : goal.append_name-requires
append_name-requires c =
    let pre = c.requires in
    let loop = c.loop-k in
    let loop-test = c.loop-k-test in
    (loop.invariant.1.left.form, omega (arith, logged_count _ _ _ _ loop.invariant.1, loop-test.true, pre.fits, ap most_statements (logged_size _ _ _ _ loop.invariant.1)))

pub overflow_add-k : goal.overflow_add-k
overflow_add-k c =
    let pre = c.requires in
    let loop-test = c.loop-k-test in
    omega (arith, loop-test.true, enough_few pre)

pub overflow_cast-k : goal.overflow_cast-k
overflow_cast-k c =
    let pre = c.requires in
    let loop-test = c.loop-k-test in
    omega (arith, loop-test.true, enough_few pre)

pub committed-next-requires : goal.committed-next-requires
committed-next-requires c =
    let a = c.args in
    let p = c.requires in
    let l = c.loop-k in
    let loop-test = c.loop-k-test in
    let statement-at = c.statement_at-x in
    omega (arith, logged_ends a.store.now a.gained.now a.out.now a.at l.invariant.1, l.invariant.1.low, loop-test.true, p.space, says_length l.invariant.1.says, committed_bytes (l.k + 1) (name_of statement-at.result.name))

pub loop-k-preserved : goal.loop-k-preserved
loop-k-preserved c =
    let a = c.args in let p = c.requires in
    let l = c.loop-k in
    let loop-test = c.loop-k-test in
    let statement-at = c.statement_at-x in
    let append-name = c.append_name in
    (omega (arith, loop-test.true), logged_next a.store.now a.gained.now a.out.now a.at l.invariant.1 _ (logged_name a.store.now a.gained.now a.out.now a.at l.invariant.1 statement-at.result (p.stored l.k l.invariant.1.low loop-test.true) (simp c.from.ensures at statement-at.ensures)) append-name.ensures c.committed-next.ensures)

pub shape_of-store : goal.shape_of-store
shape_of-store c =
    same_long c.requires.form c.loop-k.invariant.1.left.form (logged_size _ _ _ _ c.loop-k.invariant.1)

pub shape_of-out : goal.shape_of-out
shape_of-out c =
    says_length c.loop-k.invariant.1.says

pub returns : goal.returns
returns c =
    let a = c.args in logged_done a.store.now a.gained.now a.out.now a.at c.loop-k.invariant.1 a.len (omega (arith, c.loop-k-test.false, c.loop-k.invariant.0))
