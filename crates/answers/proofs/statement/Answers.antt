-- `answers::statement` meets its contract: what the plan tells. Assumes nothing.
use Rattle.plans.proofs.Plans.{plan_tells}
use Rattle.acts.proofs.Statements.{code_unvoted, repeat_fits, repeat_left, stored_stands, statement_repeat}
use Rattle.acts.proofs.Answers.{statement_new, new_room}
use Rattle.storing.proofs.Statements.{sendable_certifies}
use Rattle.acts.proofs.Works.{formed_parts, left_formed, works_is, works_none}
use Rattle.acts.specs.Answers.{answered}
use Rattle.plans.specs.declared.Plan.TheVariants.{Repeat, New, Full}
use Rattle.kept.proofs.Facts.{clocks_of}
use Rattle.kept.proofs.Tables.{stored_formed}
use Rattle.laws.proofs.Tests.{no_bool}
use Rattle.store.proofs.Loaded.{loaded_statements}
use native.Mathlib.Omega.{arith}
use Rattle.store.proofs.Forms.{form_long}
use Rattle.store.specs.Decode.{state_of}
use Rattle.wire.specs.Meaning.{statement_of}
use Rattle.words.specs.Meaning.{block_of}
use mathlib.Core.Option.{none}
use mathlib.Core.Path.{sym, ap, ◌∙◌}
use Rattle.answers.proofs.statement.Goals as goal

pub certificate_of-requires : goal.certificate_of-requires
certificate_of-requires c =
    sendable_certifies (state_of c.args.store.now).settings c.args.x c.requires.1

pub join_certificate-requires : goal.join_certificate-requires
join_certificate-requires c =
    let x = statement_of c.args.x none in
    let repeats = plan_tells x (state_of c.args.store.now) Repeat (sym c.in-Repeat.is ∙ c.requires.3) in
    (c.requires.0.form, repeat_fits c.requires.0 x (block_of c.certificate_of.result) c.certificate_of.ensures repeats, (clocks_of (formed_parts c.requires.0).formed).last)

pub load-station-requires : goal.load-station-requires
load-station-requires c =
    omega (arith, form_long _ c.requires.0.form)

pub store_new-opened-requires : goal.store_new-opened-requires
store_new-opened-requires c =
    (c.requires.0.form, c.requires.1, plan_tells (statement_of c.args.x none) (state_of c.args.store.now) (New _ _) (sym c.in-New.is ∙ c.requires.3), (clocks_of (formed_parts c.requires.0).formed).last)

pub answer-requires : goal.answer-requires
answer-requires c =
    let load = c.load-station in
    let store-new = c.store_new-opened in
    let b = c.args.store.now in
    let x = statement_of c.args.x none in
    let new = plan_tells x (state_of b) (New _ _) (sym c.in-New.is ∙ c.requires.3) in
    let stored = store-new.ensures in
    (left_formed stored.left (stored_formed (formed_parts c.requires.0).formed x c.requires.1 (code_unvoted c.args.x) new.is_new), stored_stands b c.args.x load.result.statements (loaded_statements load.result b load.ensures) stored.left, stored.place, c.requires.4)

pub returns-in-Repeat : goal.returns-in-Repeat
returns-in-Repeat c =
    let s = state_of c.args.store.now in
    let x = statement_of c.args.x none in
    let certificate = c.certificate_of in
    let repeats = plan_tells x s Repeat (sym c.in-Repeat.is ∙ c.requires.3) in
    works_is (statement_repeat x s repeats)
    (works_none c.args.out.now c.args.at (repeat_left c.requires.0 x (block_of certificate.result) certificate.ensures c.join_certificate.ensures))

pub returns-in-New : goal.returns-in-New
returns-in-New c =
    let s = state_of c.args.store.now in
    let x = statement_of c.args.x none in
    let new = plan_tells x s (New _ _) (sym c.in-New.is ∙ c.requires.3) in
    works_is (ap (answered x) c.store_new-opened.ensures.left.is ∙ sym (statement_new x s new.is_new)) c.answer.ensures

pub returns-in-Full : goal.returns-in-Full
returns-in-Full c =
    let s = state_of c.args.store.now in
    let x = statement_of c.args.x none in
    let full = plan_tells x s Full (sym c.in-Full.is ∙ c.requires.3) in
    no_bool (sym c.requires.2 ∙ new_room x s full.0 ∙ full.1)
