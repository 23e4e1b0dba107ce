-- `reached_at` meets its contract: the last number of the record of place i, less one. Assumes nothing.
use Rattle.store.specs.Decode.{since_for}
use Rattle.tallies.proofs.Values.{told_less}
use Rattle.store.proofs.reached_at.Goals as goal

pub returns : goal.returns
unfolding since_for
returns c = told_less _ _ (rw (c.get_four.ensures, c.tally_place.ensures.0) at c.checked_sub.ensures)
