-- `slip_write` meets its contract: refused for the lengths or the store, not logged, or written. Assumes nothing.
use Prim.Native.Nat.{◌+◌}
use mathlib.Core.Path.{refl, ap}
use native.Mathlib.Omega.{arith}
use mathlib.Core.Bool.{not}
use Rattle.fields.specs.Names.{name_of}
use Rattle.store.specs.Layout.{size_in}
use Rattle.store.specs.Decode.{statements, names}
use Rattle.store.proofs.Forms.{form_long, form_log}
use Rattle.store.proofs.Loaded.{loaded_statements, loaded_logged}
use Rattle.slip_writer.proofs.Chains.{name_found, slip_fits, slip_most}
use Rattle.slip_writer.proofs.Called.{refused_store, refused_name, refused_out, whole, refused_formless, has_form_lem, gives_unlogged, gives_slip}
use Rattle.slip_writer.proofs.slip_write.Goals as goal

pub returns-then-not-is_whole : goal.returns-then-not-is_whole
returns-then-not-is_whole c = rw c.answer.ensures (refused_store _ _ _ refl c.is_whole.ensures (ap not c.if-not-is_whole.true))

pub returns-then-name-ne32 : goal.returns-then-name-ne32
returns-then-name-ne32 c = rw c.answer-then-name-ne32.ensures (refused_name _ _ _ refl c.if-name-ne32.true)

pub returns-then-out-least_out_in : goal.returns-then-out-least_out_in
returns-then-out-least_out_in c = rw c.answer-then-out-least_out_in.ensures (refused_out _ _ _ refl (omega (arith, c.if-out-least_out_in.true, c.least_out_in.ensures)))

pub well_formed-requires : goal.well_formed-requires
well_formed-requires c =
    let a = c.args in whole a.store.now a.name.now a.out.now c.is_whole.ensures (ap not c.if-not-is_whole.false)

pub returns-then-not-well_formed : goal.returns-then-not-well_formed
returns-then-not-well_formed c =
    let a = c.args in
    let is_whole = c.is_whole in
    let least-out-in = c.least_out_in in
    rw c.answer-then-not-well_formed.ensures (refused_formless a.store.now a.name.now a.out.now is_whole.ensures (ap not c.if-not-is_whole.false) c.if-name-ne32.false (omega (arith, c.if-out-least_out_in.false, least-out-in.ensures)) c.well_formed-2.ensures refl (ap not c.if-not-well_formed.true))

pub load-station-requires : goal.load-station-requires
load-station-requires c =
    let a = c.args in
    let is_whole = c.is_whole in
    let least-out-in = c.least_out_in in
    let f = (has_form_lem a.store.now a.name.now a.out.now is_whole.ensures (ap not c.if-not-is_whole.false) c.if-name-ne32.false (omega (arith, c.if-out-least_out_in.false, least-out-in.ensures)) c.well_formed-2.ensures c.type_inv.store (ap not c.if-not-well_formed.false)) in
    omega (arith, form_long _ f)

pub find_name-requires : goal.find_name-requires
find_name-requires c =
    let a = c.args in
    let is_whole = c.is_whole in
    let least-out-in = c.least_out_in in
    let well-formed = c.well_formed-2 in
    ((has_form_lem a.store.now a.name.now a.out.now is_whole.ensures (ap not c.if-not-is_whole.false) c.if-name-ne32.false (omega (arith, c.if-out-least_out_in.false, least-out-in.ensures)) well-formed.ensures c.type_inv.store (ap not c.if-not-well_formed.false)), loaded_logged _ _ c.load-station.ensures)

pub returns-in_default : goal.returns-in_default
returns-in_default c =
    let a = c.args in
    let is_whole = c.is_whole in
    let least-out-in = c.least_out_in in
    let well-formed = c.well_formed-2 in
    let get-name = c.get_name-wanted in
    rw c.answer-in_default.ensures (gives_unlogged a.store.now a.name.now a.out.now is_whole.ensures (ap not c.if-not-is_whole.false) c.if-name-ne32.false (omega (arith, c.if-out-least_out_in.false, least-out-in.ensures)) well-formed.ensures (ap not c.if-not-well_formed.false)
    get-name.ensures.0 c.find_name.ensures refl c.in_default.is)

pub overflow_add-i : goal.overflow_add-i
overflow_add-i c =
    let a = c.args in
    let is_whole = c.is_whole in
    let least-out-in = c.least_out_in in
    let well-formed = c.well_formed-2 in
    let find-name = c.find_name in
    let f = (has_form_lem a.store.now a.name.now a.out.now is_whole.ensures (ap not c.if-not-is_whole.false) c.if-name-ne32.false (omega (arith, c.if-out-least_out_in.false, least-out-in.ensures)) well-formed.ensures c.type_inv.store (ap not c.if-not-well_formed.false)) in
    omega (arith, (name_found a.store.now _ find-name.ensures c.in-Some.is).1, form_log _ f)

pub write_slip-requires : goal.write_slip-requires
write_slip-requires c =
    let a = c.args in
    let is_whole = c.is_whole in
    let least-out-in = c.least_out_in in
    let well-formed = c.well_formed-2 in
    let load = c.load-station in let find-name = c.find_name in (
      (has_form_lem a.store.now a.name.now a.out.now is_whole.ensures (ap not c.if-not-is_whole.false) c.if-name-ne32.false (omega (arith, c.if-out-least_out_in.false, least-out-in.ensures)) well-formed.ensures c.type_inv.store (ap not c.if-not-well_formed.false)),
      loaded_statements _ _ load.ensures,
      omega (arith, (name_found a.store.now _ find-name.ensures c.in-Some.is).1),
      omega (arith, c.if-out-least_out_in.false, least-out-in.ensures),
    )

pub returns : goal.returns
returns c =
    let a = c.args in
    let is_whole = c.is_whole in
    let least-out-in = c.least_out_in in
    let well-formed = c.well_formed-2 in
    let get-name = c.get_name-wanted in
    let find-name = c.find_name in let f = (has_form_lem a.store.now a.name.now a.out.now is_whole.ensures (ap not c.if-not-is_whole.false) c.if-name-ne32.false (omega (arith, c.if-out-least_out_in.false, least-out-in.ensures)) well-formed.ensures c.type_inv.store (ap not c.if-not-well_formed.false)) in
    let n = name_of get-name.result in
    let i = c.in-Some.i in
    let l = slip_most n (statements a.store.now) (names a.store.now) (i + 1) in
    gives_slip a.store.now a.name.now a.out.now is_whole.ensures (ap not c.if-not-is_whole.false) c.if-name-ne32.false (omega (arith, c.if-out-least_out_in.false, least-out-in.ensures)) well-formed.ensures (ap not c.if-not-well_formed.false)
    get-name.ensures.0 find-name.ensures c.in-Some.is refl c.write_slip.ensures
    (omega (arith, l, (name_found a.store.now _ find-name.ensures c.in-Some.is).1, form_log _ f, slip_fits (size_in a.store.now), c.if-out-least_out_in.false, least-out-in.ensures))
