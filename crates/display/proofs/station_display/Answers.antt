-- `station_display` meets its contract: refused for the lengths, refused for the store, or shown. Assumes nothing.
use mathlib.Core.Path.{refl, ap}
use native.Mathlib.Omega.{arith}
use mathlib.Core.Bool.{not}
use Rattle.display.proofs.Called.{refused_store, refused_out, whole, refused_formless, has_form_lem, gives_display}
use Rattle.display.proofs.station_display.Goals as goal

pub returns-then-not-is_whole : goal.returns-then-not-is_whole
returns-then-not-is_whole c =
    rw c.answer.ensures (refused_store _ _ refl c.is_whole.ensures (ap not c.if-not-is_whole.true))

pub returns-then-out-least_out_in : goal.returns-then-out-least_out_in
returns-then-out-least_out_in c =
    rw c.answer-then-out-least_out_in.ensures (refused_out _ _ refl (omega (arith, c.if-out-least_out_in.true, c.least_out_in.ensures)))

pub well_formed-requires : goal.well_formed-requires
well_formed-requires c =
    let a = c.args in whole a.store.now a.out.now c.is_whole.ensures (ap not c.if-not-is_whole.false)

pub returns-then-not-well_formed : goal.returns-then-not-well_formed
returns-then-not-well_formed c =
    let a = c.args in
    let is_whole = c.is_whole in
    let least-out-in = c.least_out_in in
    rw c.answer-then-not-well_formed.ensures (refused_formless a.store.now a.out.now is_whole.ensures (ap not c.if-not-is_whole.false) (omega (arith, c.if-out-least_out_in.false, least-out-in.ensures)) c.well_formed-2.ensures refl (ap not c.if-not-well_formed.true))

pub show_all-requires : goal.show_all-requires
show_all-requires c =
    let a = c.args in
    let is_whole = c.is_whole in
    let least-out-in = c.least_out_in in
    let m = least-out-in.ensures in
    (has_form_lem a.store.now a.out.now is_whole.ensures (ap not c.if-not-is_whole.false) (omega (arith, c.if-out-least_out_in.false, m)) c.well_formed-2.ensures c.type_inv.store (ap not c.if-not-well_formed.false), omega (arith, c.if-out-least_out_in.false, m))

pub returns : goal.returns
returns c =
    let a = c.args in
    let is_whole = c.is_whole in
    let least-out-in = c.least_out_in in
    let well-formed = c.well_formed-2 in
    gives_display a.store.now a.out.now is_whole.ensures (ap not c.if-not-is_whole.false) (omega (arith, c.if-out-least_out_in.false, least-out-in.ensures)) well-formed.ensures c.type_inv.store (ap not c.if-not-well_formed.false) c.show_all.ensures
