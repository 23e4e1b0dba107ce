-- Answers to the goals of `certificates::highest`. Assumes nothing.
use Rattle.certificates.proofs.Ranks.{chosen_below, highest_none, highest_step, highest_all}
use Rattle.store.proofs.Counts.{long, few_tallies_lem}
use Rattle.store.proofs.Loaded.{loaded_settings, loaded_tallies}
use Rattle.store.specs.Decode.{tally_at, tallies, state_of}
use Rattle.store.specs.Layout.{tally_table, count_of}
use Rattle.words.specs.Meaning.{block_of}
use Rattle.tallies.specs.Meaning.{tally_of}
use Rattle.settings.specs.Made.{settings_of}
use Rattle.rules.specs.Words.{certificate_of}
use native.Mathlib.Omega.{arith}
use mathlib.Core.Path.{refl, sym, ◌∙◌, ap}
use Prim.Native.Nat.{◌-◌}
use Rattle.certificates.proofs.highest.Goals as goal

pub load-station-requires : goal.load-station-requires
load-station-requires c =
    omega (arith, long c.requires)

pub genesis-best-requires : goal.genesis-best-requires
genesis-best-requires c =
    tt

pub loop-i-init : goal.loop-i-init
loop-i-init c =
    let a = c.args in
    let b = a.store.now in
    let e = loaded_tallies c.load-station.result b c.load-station.ensures in
    (omega (arith, e), c.genesis-best.ensures ∙ highest_none (state_of b).settings a.view (tally_at b) (count_of tally_table b) c.load-station.result.tallies (omega (arith, e)))

pub ranks_below-requires : goal.ranks_below-requires
ranks_below-requires c =
    (long c.requires, omega (arith, few_tallies_lem c.requires, c.loop-i.invariant.0))

pub loop-i-preserved-then-ranks_below : goal.loop-i-preserved-then-ranks_below
loop-i-preserved-then-ranks_below c =
    let a = c.args in
    let b = a.store.now in
    let l = c.loop-i in
    let g = (state_of b).settings in
    let t = certificate_of (tally_at b (l.i - 1)) in
    (omega (arith, l.invariant.0), highest_step g a.view (tally_at b) (count_of tally_table b) l.i c.loop-i-test.true l.invariant.0 g t (block_of l.best) (block_of l.best) refl refl l.invariant.1 (chosen_below g a.view t (block_of l.best) (sym c.ranks_below.ensures ∙ c.if-ranks_below.true)))

pub tally_at-tally-requires : goal.tally_at-tally-requires
tally_at-tally-requires c =
    (long c.requires, omega (arith, few_tallies_lem c.requires, c.loop-i.invariant.0))

pub better-best-requires : goal.better-best-requires
better-best-requires c =
    tt

pub loop-i-preserved : goal.loop-i-preserved
unfolding tally_of block_of
loop-i-preserved c =
    let a = c.args in
    let loaded = c.load-station in
    let l = c.loop-i in
    let loop-test = c.loop-i-test in
    let b = a.store.now in
    let tally = ap certificate_of c.tally_at-tally.ensures in
    (omega (arith, l.invariant.0), highest_step (state_of b).settings a.view (tally_at b) (count_of tally_table b) l.i loop-test.true l.invariant.0 (settings_of loaded.result.settings) (block_of c.tally_at-tally.result.block) (block_of l.best) (block_of c.better-best.result) (loaded_settings loaded.result b loaded.ensures) tally l.invariant.1 c.better-best.ensures)

pub returns : goal.returns
unfolding tallies
returns c =
    let a = c.args in
    c.loop-i.invariant.1 ∙ highest_all (state_of a.store.now).settings a.view (tally_at a.store.now) (count_of tally_table a.store.now) c.loop-i.i c.loop-i-test.false
