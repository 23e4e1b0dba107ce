-- `tallied::block::height_good` meets its contract. Assumes nothing.
use Rattle.tallied.proofs.Parts.{height_bare, height_named}
use Rattle.tallied.proofs.block.height_good.Goals as goal

pub returns-then-zero : goal.returns-then-zero
returns-then-zero c =
    rw c.if-zero.true (height_bare c.args.height)

pub returns : goal.returns
returns c =
    rw c.if-zero.false (height_named c.args.height)
