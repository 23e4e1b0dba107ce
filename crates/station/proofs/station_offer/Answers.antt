-- `station_offer` meets its contract, test by test in 01's order. Assumes nothing.
use Rattle.refusals.proofs.Opening.{refusal_err, refusal_told, refusal_none}
use Rattle.station.proofs.Offers.{misnamed_offer, barred_offer, offer_formed, offer_out, refused_offer, taken_sendable, taken_offer}
use Rattle.station.proofs.station_offer.Goals as goal

pub returns-then-name-ne32 : goal.returns-then-name-ne32
returns-then-name-ne32 c =
    let a = c.args in
    misnamed_offer a.name.now a.store.now a.out.now c.if-name-ne32.true c.answer.ensures

pub returns-in-Err : goal.returns-in-Err
returns-in-Err c =
    let a = c.args in
    let slice-known = c.slice_known-1 in let if1 = c.if-name-ne32 in
    barred_offer a.name.now a.store.now a.out.now if1.false slice-known.given c.barred.ensures (refusal_err c.in-Err.is) (refusal_told c.in-Err.is c.answer-in-Err.ensures)

pub offered-requires : goal.offered-requires
offered-requires c =
    let a = c.args in
    let slice-known = c.slice_known-1 in let if1 = c.if-name-ne32 in
    let barred = c.barred in
    offer_formed a.name.now a.store.now a.out.now if1.false slice-known.given barred.ensures (refusal_none _ c.in_default.not-Err)

pub returns-in_default-offered : goal.returns-in_default-offered
returns-in_default-offered c =
    let a = c.args in
    let slice-known = c.slice_known-1 in
    let if1 = c.if-name-ne32 in
    let barred = c.barred in let free = refusal_none _ c.in_default.not-Err in
    let get-name = c.get_name in let offered = c.offered in
    refused_offer a.name.now a.store.now a.out.now if1.false slice-known.given barred.ensures free get-name.ensures.0 offered.result offered.ensures c.in_default-offered.is c.answer-in_default-offered.ensures

pub stated-requires : goal.stated-requires
stated-requires c =
    let a = c.args in
    let slice-known = c.slice_known-1 in
    let if1 = c.if-name-ne32 in
    let barred = c.barred in
    let free = refusal_none _ c.in_default.not-Err in let get-name = c.get_name in
    let offered = c.offered in let l = if1.false in
    let k = slice-known.given in
    let e = barred.ensures in
    let z = free in
    let n = get-name.ensures in
    (offer_formed a.name.now a.store.now a.out.now l k e z, taken_sendable a.name.now a.store.now a.out.now l k e z n.0 offered.result offered.ensures c.in-Some.is n.1, offer_out a.name.now a.store.now a.out.now l k e z)

pub returns : goal.returns
returns c =
    let a = c.args in
    let slice-known = c.slice_known-1 in
    let if1 = c.if-name-ne32 in
    let barred = c.barred in
    let free = refusal_none _ c.in_default.not-Err in
    let get-name = c.get_name in
    let offered = c.offered in
    let stated = c.stated in
    taken_offer a.name.now a.store.now a.out.now if1.false slice-known.given barred.ensures free get-name.ensures.0 offered.result offered.ensures c.in-Some.is stated.ensures
