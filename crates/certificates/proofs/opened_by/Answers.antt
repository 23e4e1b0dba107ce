-- Answers to the goals of `certificates::opened_by`. Assumes nothing.
use Prim.Native.Nat.{◌-◌, ◌+◌}
use mathlib.Core.Path.{ap, sym, ◌∙◌}
use native.Mathlib.Omega.{arith}
use Rattle.store.specs.Layout.{tally_table, count_of}
use Rattle.store.specs.Decode.{tallies}
use Rattle.store.proofs.Loaded.{loaded_tallies}
use Rattle.store.proofs.Counts.{long, few_tallies_lem}
use Rattle.certificates.proofs.Openings.{opened_start, opened_whole, opened_few, opened_one, opened_other}
use Rattle.certificates.proofs.opened_by.Goals as goal

pub load-station-requires : goal.load-station-requires
load-station-requires c = omega (arith, long c.requires.0)

pub loop-i-init : goal.loop-i-init
loop-i-init c =
    let b = c.args.store.now in
    let t = loaded_tallies c.load-station.result b c.load-station.ensures in
    (omega arith, opened_start b _ _ _ t)

pub has_opened-requires : goal.has_opened-requires
has_opened-requires c =
    let k = c.requires.0 in (long k, omega (arith, few_tallies_lem k, c.loop-i.invariant.0, c.loop-i-test.true))

pub overflow_add-opened : goal.overflow_add-opened
overflow_add-opened c =
    let l = c.loop-i in
    record { fits = omega (arith, l.invariant.1, opened_few c.args.store.now c.args.author l.i (count_of tally_table c.args.store.now - l.i), few_tallies_lem c.requires.0) }

pub loop-i-preserved-then-has_opened : goal.loop-i-preserved-then-has_opened
loop-i-preserved-then-has_opened c =
    let l = c.loop-i in
    let a = c.args in
    (omega (arith, l.invariant.0), ap (◌+ 1) l.invariant.1 ∙ opened_one a.store.now a.author l.i (count_of tally_table a.store.now) c.loop-i-test.true l.invariant.0 (sym c.has_opened.ensures ∙ c.if-has_opened.true))

pub loop-i-preserved : goal.loop-i-preserved
loop-i-preserved c =
    let l = c.loop-i in
    let a = c.args in
    (omega (arith, l.invariant.0), l.invariant.1 ∙ opened_other a.store.now a.author l.i (count_of tally_table a.store.now) c.loop-i-test.true l.invariant.0 (sym c.has_opened.ensures ∙ c.if-has_opened.false))

pub returns : goal.returns
unfolding tallies
returns c =
    let l = c.loop-i in
    let a = c.args in
    l.invariant.1 ∙ opened_whole a.store.now a.author l.i (count_of tally_table a.store.now) c.loop-i-test.false
