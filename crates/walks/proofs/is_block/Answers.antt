-- `walks::is_block` meets its contract. Assumes nothing.
use mathlib.Core.Path.{sym, ◌∙◌}
use Rattle.glance.proofs.Readers.{block_agrees, block_differs}
use Rattle.walks.proofs.is_block.Goals as goal

pub returns-then-height-height_at : goal.returns-then-height-height_at
returns-then-height-height_at c =
    block_differs _ _ _ (λ e. c.if-height-height_at.true (e ∙ sym c.height_at.ensures))

pub returns : goal.returns
returns c =
    block_agrees _ _ _ c.statement_at-x.ensures _ _ (c.if-height-height_at.false ∙ c.height_at.ensures) _ c.eq.ensures
