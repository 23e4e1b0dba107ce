-- `voted_at` meets its contract: the last number of the record of place i, less one. Assumes nothing.
use Rattle.store.specs.Decode.{vote_at}
use Rattle.tallies.proofs.Values.{told_less}
use Rattle.store.proofs.voted_at.Goals as goal

pub returns : goal.returns
unfolding vote_at
returns c = told_less _ _ (rw c.get_four.ensures at c.checked_sub.ensures)
