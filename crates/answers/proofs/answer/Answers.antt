-- `answers::answer` meets its contract. Assumes nothing.
use Rattle.rules.specs.Inputs as inputs
use Rattle.rules.specs.Words.{message}
use Rattle.rules.specs.Messages.{Message, to_all}
use mathlib.Core.List.{[], ◌∷◌}
use mathlib.Core.Path.{ap}
use Rattle.acts.proofs.Statements.{conflict_within, conflict_at, conflict_none}
use Rattle.acts.proofs.Places.{sendable_linked, place_sendable, place_message}
use Rattle.acts.proofs.Answers.{answered_out, answered_votes, answered_quits}
use Rattle.acts.proofs.Works.{works_is, works_none}
use Rattle.store.proofs.Forms.{form_long, form_statements}
use Rattle.store.specs.Decode.{state_of}
use Rattle.wire.specs.Meaning.{statement_of}
use mathlib.Core.Option.{none}
use native.Mathlib.Omega.{arith}
use mathlib.Core.Path.{refl, sym, ◌∙◌}
use Rattle.answers.proofs.answer.Goals as goal

pub returns-then-not-is_in : goal.returns-then-not-is_in
unfolding statement_of
returns-then-not-is_in c =
    let s = state_of c.args.store.now in
    works_is (sym (answered_out (statement_of c.args.x none) s (sym c.is_in.ensures ∙ c.if-not-is_in.true)))
    (works_none c.args.out.now c.args.at (record { form = c.requires.0.form; is = refl }))

pub statement_at-earlier-requires : goal.statement_at-earlier-requires
statement_at-earlier-requires c =
    let args = c.args in let pre = c.requires in
    let find-conflict = c.find_conflict in
    (form_long _ pre.0.form, omega (arith, conflict_within args.store.now (statement_of args.x none) find-conflict.result find-conflict.ensures _ c.in-Some.is, form_statements _ pre.0.form))

pub quit_with_pair-requires : goal.quit_with_pair-requires
quit_with_pair-requires c =
    let args = c.args in
    let pre = c.requires in let find-conflict = c.find_conflict in let statement-at = c.statement_at-earlier in
    let b = args.store.now in
    let g = (state_of b).settings in
    let w = conflict_within b (statement_of args.x none) find-conflict.result find-conflict.ensures _ c.in-Some.is in
    (pre.0, sendable_linked g statement-at.result (place_sendable pre.0 (record { within = w; is = statement-at.ensures })), sendable_linked g args.x (place_sendable pre.0 pre.1), pre.3)

pub returns-in-Some : goal.returns-in-Some
unfolding statement_of
returns-in-Some c =
    let args = c.args in let pre = c.requires in
    let is-in = c.is_in in
    let if1 = c.if-not-is_in in
    let find-conflict = c.find_conflict in
    let statement-at = c.statement_at-earlier in let quit-with-pair = c.quit_with_pair in
    let b = args.store.now in
    let x = statement_of args.x none in
    let w = conflict_within b x find-conflict.result find-conflict.ensures _ c.in-Some.is in
    let o = conflict_at b x find-conflict.result find-conflict.ensures _ c.in-Some.is in
    works_is
    (ap (λ (m : Message). inputs.quit (to_all m ∷ to_all (message x) ∷ []) (state_of b)) (place_message pre.0 (record { within = w; is = statement-at.ensures }))
    ∙ sym (answered_quits x (state_of b) _ (sym is-in.ensures ∙ if1.false) o)) quit-with-pair.ensures

pub returns-in-None : goal.returns-in-None
unfolding statement_of
returns-in-None c =
    let args = c.args in
    let is-in = c.is_in in
    let if1 = c.if-not-is_in in
    let find-conflict = c.find_conflict in
    let voting = c.voting in
    let b = args.store.now in
    let x = statement_of args.x none in
    works_is (sym (answered_votes x (state_of b) (sym is-in.ensures ∙ if1.false) (conflict_none b x find-conflict.result find-conflict.ensures c.in-None.is))) voting.ensures
