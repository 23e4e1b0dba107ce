-- `station_certified` meets its contract: refused for the lengths, refused for the store, or told. Assumes nothing.
use mathlib.Core.Path.{ap}
use mathlib.Core.Bool.{not}
use Rattle.certified.proofs.Called.{refused_store, refused_name, whole, refused_formless, has_form_lem, tells, since_some, since_none}
use Rattle.certified.proofs.station_certified.Goals as goal

pub returns-then-not-is_whole : goal.returns-then-not-is_whole
returns-then-not-is_whole c = let a = c.args in rw c.answer.ensures (refused_store a.store.now a.view a.height a.name.now c.is_whole.ensures (ap not c.if-not-is_whole.true))

pub returns-then-name-ne32 : goal.returns-then-name-ne32
returns-then-name-ne32 c = let a = c.args in rw c.answer-then-name-ne32.ensures (refused_name a.store.now a.view a.height a.name.now c.if-name-ne32.true)

pub well_formed-requires : goal.well_formed-requires
well_formed-requires c = let a = c.args in whole a.store.now a.view a.height a.name.now c.is_whole.ensures (ap not c.if-not-is_whole.false)

pub returns-then-not-well_formed : goal.returns-then-not-well_formed
returns-then-not-well_formed c =
    let args = c.args in let is_whole = c.is_whole in
    rw c.answer-then-not-well_formed.ensures (refused_formless args.store.now args.view args.height args.name.now is_whole.ensures (ap not c.if-not-is_whole.false) c.if-name-ne32.false c.well_formed-2.ensures (ap not c.if-not-well_formed.true))

pub since-requires : goal.since-requires
since-requires c =
    let args = c.args in
    let is_whole = c.is_whole in
    has_form_lem args.store.now args.view args.height args.name.now is_whole.ensures (ap not c.if-not-is_whole.false) c.if-name-ne32.false c.well_formed-2.ensures c.type_inv.store (ap not c.if-not-well_formed.false)

pub returns-in-Some : goal.returns-in-Some
returns-in-Some c =
    let args = c.args in
    rw c.from.ensures
    (tells args.store.now args.view args.height args.name.now c.is_whole.ensures (ap not c.if-not-is_whole.false) c.if-name-ne32.false c.well_formed-2.ensures (ap not c.if-not-well_formed.false) c.get_name.ensures.0 (since_some _ c.since.ensures _ c.in-Some.is))

pub returns-in-None : goal.returns-in-None
returns-in-None c =
    let args = c.args in
    tells args.store.now args.view args.height args.name.now c.is_whole.ensures (ap not c.if-not-is_whole.false) c.if-name-ne32.false c.well_formed-2.ensures (ap not c.if-not-well_formed.false) c.get_name.ensures.0 (since_none _ c.since.ensures c.in-None.is)
