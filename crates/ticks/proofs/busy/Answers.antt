-- `ticks::busy` meets its contract, test by test in 01's order. Assumes nothing.
use Rattle.ticks.proofs.Quiet.{calm_room, grown_tick}
use Rattle.ticks.proofs.Turns.{gained_by, clock_left, splits_tick, clears, full_tick, done_tick}
use Rattle.glance.proofs.Seeing.{seen_votes}
use Rattle.store.proofs.Loaded.{loaded_clock}
use native.Mathlib.Omega.{arith}
use mathlib.Core.Path.{refl}
use mathlib.Core.Path.{ap}
use mathlib.Core.Bool.{not}
use Rattle.ticks.proofs.busy.Goals as goal

pub returns-in_default : goal.returns-in_default
returns-in_default c =
    let args = c.args in let pre = c.requires in
    let commits = c.commits in let p = pre.0 in
    splits_tick p.formed p.runs args.station p.loaded p.ahead (rw c.in_default.is at commits.ensures) c.stop.ensures args.out.now

pub overflow_add-clock : goal.overflow_add-clock
overflow_add-clock c =
    let p = c.requires.0 in
    let station = c.args.station in
    omega (arith, loaded_clock station _ p.loaded, clock_left p.formed p.runs station p.loaded p.ahead)

pub growing-requires : goal.growing-requires
growing-requires c =
    let args = c.args in
    let pre = c.requires in let commits = c.commits in
    let if1 = c.if-calm in
    let p = pre.0 in
    let station = args.station in
    clears p.formed p.runs station p.loaded p.ahead (gained_by commits.ensures c.in-Some.is) commits.auto.gained
    (calm_room p.formed station p.loaded p.runs p.ahead pre.3 if1.true) refl p.space

pub returns-then-calm : goal.returns-then-calm
returns-then-calm c =
    let args = c.args in let pre = c.requires in
    let commits = c.commits in
    let if1 = c.if-calm in let growing = c.growing in
    let p = pre.0 in
    grown_tick p.formed args.station p.loaded p.runs p.ahead pre.3 if1.true (gained_by commits.ensures c.in-Some.is) growing.ensures

pub returns-then-not-next_fits : goal.returns-then-not-next_fits
returns-then-not-next_fits c =
    let args = c.args in let pre = c.requires in
    let commits = c.commits in
    let next-fits = c.next_fits in let if2 = c.if-not-next_fits in
    let p = pre.0 in
    full_tick p.formed p.runs args.station p.loaded p.ahead (gained_by commits.ensures c.in-Some.is) next-fits.ensures (ap not if2.true) c.stop-then-not-next_fits.ensures args.out.now

pub turning-requires : goal.turning-requires
turning-requires c =
    let args = c.args in let pre = c.requires in let commits = c.commits in
    let next-fits = c.next_fits in
    let if2 = c.if-not-next_fits in
    let p = pre.0 in
    let station = args.station in (
      clears p.formed p.runs station p.loaded p.ahead (gained_by commits.ensures c.in-Some.is) commits.auto.gained next-fits.ensures (if2.false) p.space,
      seen_votes _ _ station p.loaded args.glance pre.2,
    )

pub returns : goal.returns
returns c =
    let args = c.args in let pre = c.requires in
    let commits = c.commits in
    let next-fits = c.next_fits in
    let if2 = c.if-not-next_fits in let turning = c.turning in
    let p = pre.0 in
    done_tick p.formed p.runs args.station p.loaded p.ahead (gained_by commits.ensures c.in-Some.is) next-fits.ensures (ap not if2.false) turning.ensures
