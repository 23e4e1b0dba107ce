-- `station_tick` meets its contract: refused by the check, or the rules answer. Assumes nothing.
use Rattle.refusals.proofs.Opening.{refusal_err, refusal_told, refusal_none}
use Rattle.station.proofs.Ticks.{unformed_tick, tick_may, tick_gives}
use Rattle.station.proofs.station_tick.Goals as goal

pub returns-in-Err : goal.returns-in-Err
returns-in-Err c =
    let a = c.args in
    unformed_tick a.store.now a.out.now c.checked.ensures.is (refusal_err c.in-Err.is) (refusal_told c.in-Err.is c.answer.ensures)

pub ticked-requires : goal.ticked-requires
ticked-requires c =
    let a = c.args in
    let checks = c.checked.ensures in
    let formed = refusal_none _ c.in_default.not-Err in
    let may = tick_may a.store.now a.out.now checks.is c.slice_known-1.given formed in
    (may.0, may.1, checks.told formed)

pub returns : goal.returns
returns c =
    let args = c.args in
    let slice-known = c.slice_known-1 in
    let checked = c.checked in
    let if1 = refusal_none _ c.in_default.not-Err in let ticked = c.ticked in
    tick_gives args.store.now args.out.now checked.ensures.is slice-known.given if1 ticked.ensures
