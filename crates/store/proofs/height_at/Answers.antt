-- `height_at` meets its contract: four bytes of the record of place i. Assumes nothing.
use Rattle.store.specs.Decode.{statement_at}
use borrow.Author.Rules.{rules}
use Rattle.store.proofs.height_at.Goals as goal

pub returns : goal.returns
unfolding statement_at
returns c =
    search rules
