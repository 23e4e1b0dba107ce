-- `backed::certified_key` meets its contract. Assumes nothing.
use mathlib.Core.Path.{sym, ◌∙◌}
use native.Mathlib.Omega.{arith}
use Rattle.backed.proofs.Keys.{new_key, propose_key, propose_above}
use Rattle.backed.proofs.certified_key.Goals as goal

pub returns-then-kind_at-eq1 : goal.returns-then-kind_at-eq1
returns-then-kind_at-eq1 c =
    let pre = c.requires in
    let kind_at = c.kind_at in
    new_key _ c.type_inv.store _ pre.2 (sym kind_at.ensures ∙ c.if-kind_at-eq1.true) _ _ c.get-view.ensures.0 (c.from.ensures ∙ c.height_at.ensures)

pub overflow_sub-result : goal.overflow_sub-result
overflow_sub-result c =
    omega (arith, propose_above _ c.type_inv.store _ c.requires.2 (λ e. c.if-kind_at-eq1.false (c.kind_at.ensures ∙ e)) _ c.get.ensures.0)

pub returns : goal.returns
returns c =
    propose_key _ c.type_inv.store _ c.requires.2 (λ e. c.if-kind_at-eq1.false (c.kind_at.ensures ∙ e)) _ c.get.ensures.0
