-- `lines::kinds::own` meets its contract. Assumes nothing.
use Rattle.lines.proofs.Messages.{own_field, own_none}
use mathlib.Core.Path.{sym, ◌∙◌}
use native.Mathlib.Omega.{arith}
use Rattle.lines.proofs.kinds.own.Goals as goal

pub returns-then-has : goal.returns-then-has
returns-then-has c = own_field _ _ _ _ (sym c.has.ensures ∙ c.if-has.true) _ c.field.ensures

pub returns : goal.returns
returns c = own_none _ _ _ _ (sym c.has.ensures ∙ c.if-has.false) _ c.small-value.ensures (omega arith)
