-- `ticks::ticked` meets its contract: a station that stopped, the last clock, a quiet tick, or one that may do more. Assumes nothing.
use Rattle.ticks.proofs.Quiet.{quiet_tick}
use Rattle.moves.proofs.Turns.{clock_small}
use Rattle.ticks.proofs.Turns.{stops_tick, ends_tick}
use Rattle.glance.proofs.Seeing.{seen_votes}
use Rattle.store.proofs.Forms.{form_long}
use Rattle.laws.proofs.Truths.{and_2}
use borrow.Author.Tests.{leb-true}
use native.Mathlib.Omega.{arith}
use mathlib.Core.Path.{sym, ◌∙◌}
use Rattle.ticks.proofs.ticked.Goals as goal

pub load-station-requires : goal.load-station-requires
load-station-requires c =
    omega (arith, form_long _ c.requires.0.form)

pub returns-then-not-is_running : goal.returns-then-not-is_running
returns-then-not-is_running c =
    let args = c.args in let pre = c.requires in
    stops_tick pre.0 (sym c.is_running.ensures ∙ c.if-not-is_running.true) c.answer.ensures args.out.now

pub returns-then-station-eq-LAST_CLOCK : goal.returns-then-station-eq-LAST_CLOCK
returns-then-station-eq-LAST_CLOCK c =
    let args = c.args in let pre = c.requires in
    let load = c.load-station in
    let is-running = c.is_running in let if1 = c.if-not-is_running in
    let if2 = c.if-station-eq-LAST_CLOCK in
    ends_tick pre.0 (sym is-running.ensures ∙ if1.false) load.result load.ensures if2.true c.stop.ensures args.out.now

pub is_calm-calm-requires : goal.is_calm-calm-requires
is_calm-calm-requires c =
    let pre = c.requires in
    let load = c.load-station in
    (pre.0, load.ensures, seen_votes _ _ load.result load.ensures c.look-glance.result c.look-glance.ensures)

pub overflow_add-station : goal.overflow_add-station
overflow_add-station c =
    let pre = c.requires in
    let load = c.load-station in
    omega (arith, clock_small pre.0 load.result load.ensures)

pub set_clock-requires : goal.set_clock-requires
set_clock-requires c =
    c.requires.0.form

pub returns-then-calm-station : goal.returns-then-calm-station
returns-then-calm-station c =
    let args = c.args in let pre = c.requires in
    let load = c.load-station in
    let is-running = c.is_running in
    let if1 = c.if-not-is_running in
    let if2 = c.if-station-eq-LAST_CLOCK in
    let look = c.look-glance in
    let is-calm = c.is_calm-calm in let if3 = c.if-calm-station in
    let t = and_2 is-calm.result _ if3.true in
    quiet_tick pre.0 load.result load.ensures (sym is-running.ensures ∙ if1.false) if2.false {m = is-calm.result} is-calm.ensures t.0 pre.2 look.result look.ensures (leb-true _ _ t.1) c.set_clock.ensures args.out.now

pub busy-requires : goal.busy-requires
busy-requires c =
    let p = c.requires in
    let load = c.load-station in
    let is-running = c.is_running in
    let if1 = c.if-not-is_running in
    let if2 = c.if-station-eq-LAST_CLOCK in
    let look = c.look-glance in let is-calm = c.is_calm-calm in
    (record { formed = p.0; runs = sym is-running.ensures ∙ if1.false; loaded = load.ensures; ahead = if2.false; space = p.1 }, p.2, look.ensures, is-calm.ensures)
