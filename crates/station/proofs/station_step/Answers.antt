-- `station_step` meets its contract, test by test in the order of 01 and 02. Assumes nothing.
use Rattle.refusals.proofs.Opening.{refusal_err, refusal_told, refusal_none}
use Rattle.station.proofs.Steps.{barred_step, step_formed, step_long, step_out, unreadable_step, forbidden_step, read_may, ahead_step, handled_step}
use mathlib.Core.Path.{ap}
use mathlib.Core.Bool.{not}
use Rattle.station.proofs.station_step.Goals as goal

pub returns-in-Err : goal.returns-in-Err
returns-in-Err c =
    let a = c.args in
    barred_step a.message.now a.store.now a.out.now c.slice_known-1.given c.barred.ensures (refusal_err c.in-Err.is) (refusal_told c.in-Err.is c.answer.ensures)

pub returns-in_default-read_message : goal.returns-in_default-read_message
returns-in_default-read_message c =
    let a = c.args in
    let slice-known = c.slice_known-1 in
    let barred = c.barred in let free = refusal_none _ c.in_default.not-Err in
    let read-message = c.read_message in
    unreadable_step a.message.now a.store.now a.out.now slice-known.given barred.ensures free read-message.ensures c.in_default-read_message.is c.answer-in_default-read_message.ensures

pub load-station-requires : goal.load-station-requires
load-station-requires c =
    let a = c.args in
    let slice-known = c.slice_known-1 in
    let barred = c.barred in let free = refusal_none _ c.in_default.not-Err in
    step_long a.message.now a.store.now a.out.now slice-known.given barred.ensures free

pub returns-then-not-message_allowed : goal.returns-then-not-message_allowed
returns-then-not-message_allowed c =
    let a = c.args in
    let slice-known = c.slice_known-1 in
    let barred = c.barred in
    let free = refusal_none _ c.in_default.not-Err in
    let read-message = c.read_message in let load = c.load-station in
    forbidden_step a.message.now a.store.now a.out.now slice-known.given barred.ensures free read-message.ensures c.in-Some.is load.result load.ensures c.message_allowed.ensures (ap not c.if-not-message_allowed.true) c.answer-then-not-message_allowed.ensures

pub returns-then-is_ahead : goal.returns-then-is_ahead
returns-then-is_ahead c =
    let a = c.args in
    let slice-known = c.slice_known-1 in
    let barred = c.barred in
    let free = refusal_none _ c.in_default.not-Err in
    let read-message = c.read_message in
    let load = c.load-station in
    let message-allowed = c.message_allowed in let if2 = c.if-not-message_allowed in
    ahead_step a.message.now a.store.now a.out.now slice-known.given barred.ensures free read-message.ensures c.in-Some.is load.result load.ensures message-allowed.ensures (ap not if2.false) c.is_ahead.ensures c.if-is_ahead.true c.answer-then-is_ahead.ensures

pub handled-requires : goal.handled-requires
handled-requires c =
    let a = c.args in
    let slice-known = c.slice_known-1 in
    let shared-slice-known = c.shared_slice_known-1 in
    let barred = c.barred in
    let free = refusal_none _ c.in_default.not-Err in
    let read-message = c.read_message in
    let load = c.load-station in
    let message-allowed = c.message_allowed in let if2 = c.if-not-message_allowed in
    let k = slice-known.given in
    let e = barred.ensures in
    let z = free in
    (step_formed a.message.now a.store.now a.out.now k e z, read_may a.message.now a.store.now a.out.now k e z read-message.ensures c.in-Some.is load.result load.ensures message-allowed.ensures (ap not if2.false) shared-slice-known.given, step_out a.message.now a.store.now a.out.now k e z)

pub returns : goal.returns
returns c =
    let a = c.args in
    let slice-known = c.slice_known-1 in
    let barred = c.barred in
    let free = refusal_none _ c.in_default.not-Err in
    let read-message = c.read_message in
    let load = c.load-station in
    let message-allowed = c.message_allowed in
    let if2 = c.if-not-message_allowed in
    let is-ahead = c.is_ahead in let if3 = c.if-is_ahead in
    let handled = c.handled in
    handled_step a.message.now a.store.now a.out.now slice-known.given barred.ensures free read-message.ensures c.in-Some.is load.result load.ensures message-allowed.ensures (ap not if2.false) is-ahead.ensures if3.false handled.ensures
