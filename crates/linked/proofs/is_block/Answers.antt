-- `linked::is_block` meets its contract. Assumes nothing.
use Rattle.linked.proofs.Parts.{block_agrees}
use Rattle.linked.proofs.is_block.Goals as goal

pub returns : goal.returns
returns c =
    block_agrees _ _ _ _ _ _ _ c.kind_at-is_new_view.ensures c.height_at.ensures c.same-same.ensures
