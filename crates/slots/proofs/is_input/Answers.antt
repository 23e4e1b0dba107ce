-- `slots::is_input` meets its contract, kind by kind. Assumes nothing.
use mathlib.Core.Path.{◌∙◌}
use native.Mathlib.Omega.{arith}
use Rattle.slots.proofs.Inputs.{too_long, tick_input, offer_input, message_input, other_input}
use Rattle.slots.proofs.is_input.Goals as goal

pub returns-then-input-gt-MOST_INPUT : goal.returns-then-input-gt-MOST_INPUT
returns-then-input-gt-MOST_INPUT c = too_long _ _ c.if-input-gt-MOST_INPUT.true

pub returns-in-1 : goal.returns-in-1
returns-in-1 c = c.is_empty.ensures ∙ tick_input _ _ c.if-input-gt-MOST_INPUT.false c.in-1.is

pub returns-in-2 : goal.returns-in-2
returns-in-2 c = offer_input _ _ c.if-input-gt-MOST_INPUT.false c.in-2.is

pub returns-in-3 : goal.returns-in-3
returns-in-3 c = message_input _ _ c.if-input-gt-MOST_INPUT.false c.in-3.is c.is_readable.ensures

pub returns-in_default : goal.returns-in_default
returns-in_default c = other_input _ _ (λ e. omega arith) (λ e. omega arith) (λ e. omega arith)
