-- `plain_turns::view_of` meets its contract. Assumes nothing.
use mathlib.Core.Path.{sym, ap, ◌∙◌}
use Rattle.rules.specs.Messages.{view_of}
use Rattle.wire.specs.Meaning.{message_of}
use Rattle.wire.specs.declared.Message.{Message}
use Rattle.plain_turns.proofs.Laws.{stated_view}
use Rattle.plain_turns.proofs.view_of.Goals as goal

pub returns-in-Stated : goal.returns-in-Stated
returns-in-Stated c =
    stated_view c.in-Stated.x ∙ ap (λ (m : Message). view_of (message_of m)) (sym c.in-Stated.is)

pub returns-in-Vote : goal.returns-in-Vote
unfolding message_of view_of
returns-in-Vote c =
    ap (λ (m : Message). view_of (message_of m)) (sym c.in-Vote.is)

pub returns-in-Blame : goal.returns-in-Blame
unfolding message_of view_of
returns-in-Blame c =
    ap (λ (m : Message). view_of (message_of m)) (sym c.in-Blame.is)

pub returns-in-BlameSet : goal.returns-in-BlameSet
unfolding message_of view_of
returns-in-BlameSet c =
    ap (λ (m : Message). view_of (message_of m)) (sym c.in-BlameSet.is)

pub returns-in-Status : goal.returns-in-Status
unfolding message_of view_of
returns-in-Status c =
    ap (λ (m : Message). view_of (message_of m)) (sym c.in-Status.is)
