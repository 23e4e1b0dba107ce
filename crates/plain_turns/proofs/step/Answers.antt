-- `plain_turns::step` meets its contract. Assumes nothing.
use mathlib.Core.Path.{sym, ap, ◌∙◌}
use Rattle.wire.specs.Meaning.{message_of, read_of}
use Rattle.plain_tables.specs.Meaning.{state}
use Rattle.plain_turns.proofs.Laws.{refused_turned, turn_as, turn_is, step_stopped, step_unreadable, step_barred, step_ahead, step_heard, step_answered}
use Rattle.plain_turns.proofs.step.Goals as goal

pub returns-then-not-running : goal.returns-then-not-running
returns-then-not-running c =
    let a = c.args in
    let k = c.requires.0 in
    step_answered a.message.now a.e _ _ c.type_inv.message k
    (turn_is c.refused.ensures (turn_as (step_stopped a.message.now (state a.e) (sym c.running.ensures ∙ c.if-not-running.true)) (refused_turned 3 a.e _ k.sized)))

pub returns-then-not-message_allowed : goal.returns-then-not-message_allowed
unfolding read_of state
returns-then-not-message_allowed c =
    let a = c.args in let pre = c.requires in
    let running = c.running in
    let if1 = c.if-not-running in
    let read-message = c.read_message-read in let k = pre.0 in
    step_answered a.message.now a.e _ _ c.type_inv.message k
    (turn_is c.refused-then-not-message_allowed.ensures (turn_as (step_barred a.message.now (state a.e) (sym running.ensures ∙ if1.false) (message_of c.in-Some.m) (ap read_of (sym c.in-Some.is) ∙ read-message.ensures) (sym c.message_allowed.ensures ∙ c.if-not-message_allowed.true)) (refused_turned 5 a.e _ k.sized)))

pub returns-then-ahead : goal.returns-then-ahead
unfolding read_of state
returns-then-ahead c =
    let a = c.args in let pre = c.requires in
    let running = c.running in
    let if1 = c.if-not-running in
    let read-message = c.read_message-read in
    let message-allowed = c.message_allowed in
    let if2 = c.if-not-message_allowed in
    let k = pre.0 in
    step_answered a.message.now a.e _ _ c.type_inv.message k
    (turn_is c.refused-then-ahead.ensures (turn_as (step_ahead a.message.now (state a.e) (sym running.ensures ∙ if1.false) (message_of c.in-Some.m) (ap read_of (sym c.in-Some.is) ∙ read-message.ensures) (sym message-allowed.ensures ∙ if2.false) (sym c.ahead.ensures ∙ c.if-ahead.true)) (refused_turned 11 a.e _ k.sized)))

pub heard-requires : goal.heard-requires
unfolding state
heard-requires c =
    let pre = c.requires in
    let message-allowed = c.message_allowed in let if2 = c.if-not-message_allowed in
    (pre.0, sym message-allowed.ensures ∙ if2.false, pre.1)

pub returns-in-None : goal.returns-in-None
unfolding read_of
returns-in-None c =
    let a = c.args in let pre = c.requires in
    let running = c.running in
    let if1 = c.if-not-running in let read-message = c.read_message-read in
    let k = pre.0 in
    step_answered a.message.now a.e _ _ c.type_inv.message k
    (turn_is c.refused-in-None.ensures (turn_as (step_unreadable a.message.now (state a.e) (sym running.ensures ∙ if1.false) (ap read_of (sym c.in-None.is) ∙ read-message.ensures)) (refused_turned 4 a.e _ k.sized)))

pub returns-else-ahead : goal.returns-else-ahead
unfolding read_of state
returns-else-ahead c =
    let a = c.args in
    let pre = c.requires in
    let running = c.running in
    let if1 = c.if-not-running in
    let read-message = c.read_message-read in
    let message-allowed = c.message_allowed in let if2 = c.if-not-message_allowed in
    let ahead = c.ahead in let if3 = c.if-ahead in
    let k = pre.0 in
    step_answered a.message.now a.e _ _ c.type_inv.message k
    (turn_as (step_heard a.message.now (state a.e) (sym running.ensures ∙ if1.false) (message_of c.in-Some.m) (ap read_of (sym c.in-Some.is) ∙ read-message.ensures) (sym message-allowed.ensures ∙ if2.false) (sym ahead.ensures ∙ if3.false)) c.heard.ensures)
