-- `messages::stated` meets its contract: it fits, or the station stops. Assumes nothing.
use mathlib.Core.Path.{sym, ◌∙◌}
use mathlib.Core.Option.{none}
use Rattle.rules.specs.Inputs as inputs
use Rattle.wire.specs.Meaning.{statement_of}
use Rattle.store.specs.Decode.{state_of}
use Rattle.plans.proofs.Plans.{plan_room}
use Rattle.acts.proofs.Works.{formed_parts}
use Rattle.stops.proofs.Stops.{room_answers, full_answers}
use Rattle.messages.proofs.stated.Goals as goal

pub returns-then-not-fits : goal.returns-then-not-fits
returns-then-not-fits c =
    let planned = c.planned-plan in let fits2 = c.fits in
    let if1 = c.if-not-fits in
    let s = state_of c.args.store.now in
    let x = statement_of c.args.x none in
    let room = fits2.ensures ∙ plan_room x s (formed_parts c.requires.0) planned.result planned.ensures in
    full_answers s (inputs.statement x s) (sym room ∙ if1.true) c.stop.ensures c.args.out.now

pub statement-requires : goal.statement-requires
statement-requires c =
    let s = state_of c.args.store.now in
    let x = statement_of c.args.x none in
    let room = c.fits.ensures ∙ plan_room x s (formed_parts c.requires.0) c.planned-plan.result c.planned-plan.ensures in
    (c.requires.0, c.requires.1, sym room ∙ c.if-not-fits.false, c.planned-plan.ensures, c.requires.2)

pub returns : goal.returns
returns c =
    let planned = c.planned-plan in
    let fits2 = c.fits in let if1 = c.if-not-fits in
    let statement = c.statement in
    let s = state_of c.args.store.now in
    let x = statement_of c.args.x none in
    let room = fits2.ensures ∙ plan_room x s (formed_parts c.requires.0) planned.result planned.ensures in
    room_answers s (inputs.statement x s) (sym room ∙ if1.false) statement.ensures
