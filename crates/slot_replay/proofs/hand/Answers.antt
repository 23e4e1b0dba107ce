-- `slot_replay::hand` meets its contract: one of the station's calls. Assumes nothing.
use native.Mathlib.Omega.{arith}
use Rattle.slot_replay.proofs.Untaken.{hands_tick, hands_offer, hands_step}
use Rattle.slot_replay.proofs.hand.Goals as goal

pub returns-in-1 : goal.returns-in-1
returns-in-1 c =
    let a = c.args in
    hands_tick a.kind a.input.now a.store.now a.out.now c.slice_known-1.given c.in-1.is c.station_tick.ensures

pub returns-in-2 : goal.returns-in-2
returns-in-2 c =
    let a = c.args in
    hands_offer a.kind a.input.now a.store.now a.out.now c.slice_known-1.given (omega arith) c.in-2.is c.station_offer.ensures

pub returns-in_default : goal.returns-in_default
returns-in_default c =
    let a = c.args in
    hands_step a.kind a.input.now a.store.now a.out.now c.slice_known-1.given (λ e. omega arith) (λ e. omega arith) c.station_step.ensures
