-- `plans::planned` meets its contract: a repeat, or what its two tallies need decides. Assumes nothing.
use Rattle.plans.proofs.Plans.{planned_repeat, is_repeat, is_new_lem, new_planned}
use Rattle.storing.proofs.Records.{needed_few}
use Rattle.storing.proofs.Statements.{sendable_certifies}
use Rattle.store.proofs.Loaded.{loaded_statements, loaded_tallies}
use Rattle.store.proofs.Forms.{form_long, form_tallies}
use Rattle.store.specs.Decode.{state_of}
use Rattle.wire.specs.Meaning.{statement_of}
use Rattle.words.specs.Meaning.{block_of}
use mathlib.Core.Option.{none}
use mathlib.Core.Path.{◌∙◌}
use native.Mathlib.Omega.{arith}
use Rattle.plans.proofs.planned.Goals as goal

pub returns-in_default : goal.returns-in_default
returns-in_default c =
    let b = c.args.store.now in
    let x = statement_of c.args.x none in
    let found = c.find_statement in
    planned_repeat x (state_of b) (is_repeat b x found.result found.ensures _ c.in_default.is)

pub certificate_of-certificate-requires : goal.certificate_of-certificate-requires
certificate_of-certificate-requires c =
    sendable_certifies (state_of c.args.store.now).settings c.args.x c.requires.1

pub overflow_add-records : goal.overflow_add-records
overflow_add-records c =
    let certificate-of = c.certificate_of-certificate in let find-certificate = c.find_certificate-certified in
    let own_Block = c.own_block-block in
    omega (arith, c.needed.ensures, needed_few (block_of certificate-of.result) find-certificate.result, c.needed-2.ensures, needed_few (block_of own_Block.result) c.find_tally-own.result)

pub load-station-requires : goal.load-station-requires
load-station-requires c =
    omega (arith, form_long _ c.requires.0.form)

pub overflow_add-room : goal.overflow_add-room
overflow_add-room c =
    let certificate-of = c.certificate_of-certificate in
    let find-certificate = c.find_certificate-certified in
    let own_Block = c.own_block-block in let find-tally = c.find_tally-own in
    let needed = c.needed in let needed2 = c.needed-2 in
    let load = c.load-station in
    omega (arith, loaded_tallies load.result c.args.store.now load.ensures, form_tallies _ c.requires.0.form, needed.ensures, needed_few (block_of certificate-of.result) find-certificate.result, needed2.ensures, needed_few (block_of own_Block.result) find-tally.result)

pub returns : goal.returns
returns c =
    let found = c.find_statement in
    let certificate = c.certificate_of-certificate in
    let certified = c.find_certificate-certified in
    let block = c.own_block-block in
    let own = c.find_tally-own in
    let needed = c.needed in
    let needed2 = c.needed-2 in
    let load = c.load-station in
    let most-statements-in = c.most_statements_in in
    let b = c.args.store.now in
    let x = statement_of c.args.x none in
    c.new_plan.ensures
    ∙ new_planned b x c.requires.1 (block_of certificate.result) (block_of block.result) certificate.ensures block.ensures own.result own.ensures
    (is_new_lem b x found.result found.ensures c.in-None.is) certified.result certified.ensures _ _ _ _ _ _ most-statements-in.ensures c.most_tallies_in.ensures (loaded_statements load.result b load.ensures) (loaded_tallies load.result b load.ensures) needed.ensures needed2.ensures
