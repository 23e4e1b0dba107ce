-- `kind_at` meets its contract: one byte of the record of place i. Assumes nothing.
use Rattle.store.specs.Decode.{kind_at}
use borrow.Author.Rules.{rules}
use Rattle.store.proofs.kind_at.Goals as goal

pub returns : goal.returns
unfolding kind_at
returns c =
    search rules
