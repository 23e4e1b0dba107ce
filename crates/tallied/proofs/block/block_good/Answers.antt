-- `tallied::block::block_good` meets its contract. Assumes nothing.
use Rattle.tallied.proofs.Parts.{begins_named}
use Rattle.rules.specs.Messages.{block_allowed}
use mathlib.Core.Path.{◌∙◌}
use Rattle.tallied.proofs.block.block_good.Goals as goal

pub returns-then-get-ne0 : goal.returns-then-get-ne0
unfolding block_allowed
returns-then-get-ne0 c =
    rw (begins_named c.args.store.now c.args.at (λ e. c.if-get-ne0.true (c.get.ensures.0 ∙ e))) c.height_good.ensures

pub returns : goal.returns
unfolding block_allowed
returns c =
    rw (← c.all_zero-zero.ensures) c.height_good-2.ensures
