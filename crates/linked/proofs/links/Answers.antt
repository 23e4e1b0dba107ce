-- `linked::links` meets its contract. Assumes nothing.
use mathlib.Core.Path.{sym, ◌∙◌}
use Rattle.linked.proofs.Parts.{link_differs, link_agrees}
use Rattle.linked.proofs.links.Goals as goal

pub returns-then-height-height_at : goal.returns-then-height-height_at
returns-then-height-height_at c =
    link_differs _ _ _ _ _ (λ e. c.if-height-height_at.true (e ∙ sym c.height_at.ensures))

pub returns : goal.returns
returns c =
    link_agrees _ _ _ _ _ (c.if-height-height_at.false ∙ c.height_at.ensures) _ c.statement_at-statement.ensures _ _ c.eq.ensures c.eq-2.ensures
