-- `choose::rank_of` meets its contract: unreadable, not allowed, a status, another kind. Assumes nothing.
use mathlib.Core.Path.{refl, sym, ap, ◌∙◌}
use Rattle.settings.specs.Made.{settings_of}
use Rattle.wire.specs.Meaning.{read_of, message_of}
use Rattle.choose.specs.Choose.{reported}
use Rattle.choose.proofs.Laws.{report_unread, report_refused, report_is, other_kind}
use Rattle.choose.proofs.rank_of.Goals as goal

pub returns-in_err-said : goal.returns-in_err-said
unfolding read_of
returns-in_err-said c =
    rw c.from_residual.ensures (report_unread (settings_of c.args.settings) c.args.message.now (sym c.read_message.ensures ∙ ap read_of c.in_err-said.was))

pub returns-then-not-message_allowed : goal.returns-then-not-message_allowed
unfolding read_of
returns-then-not-message_allowed c =
    report_refused (settings_of c.args.settings) c.args.message.now _ (sym c.read_message.ensures ∙ ap read_of c.in_ok-said.was)
    (sym c.message_allowed.ensures ∙ c.if-not-message_allowed.true)

pub returns-in-Status : goal.returns-in-Status
unfolding read_of reported message_of
returns-in-Status c =
    let is = report_is (settings_of c.args.settings) c.args.message.now _ (sym c.read_message.ensures ∙ ap read_of c.in_ok-said.was)
    (sym c.message_allowed.ensures ∙ c.if-not-message_allowed.false) in
    record { certificate = _; is = is ∙ ap (λ m. reported (message_of m)) c.in-Status.is; view_is = refl; height_is = refl }

pub returns-in_default : goal.returns-in_default
unfolding read_of
returns-in_default c =
    report_is (settings_of c.args.settings) c.args.message.now _ (sym c.read_message.ensures ∙ ap read_of c.in_ok-said.was)
    (sym c.message_allowed.ensures ∙ c.if-not-message_allowed.false) ∙ other_kind c.in_ok-said.said c.in_default.not-Status
