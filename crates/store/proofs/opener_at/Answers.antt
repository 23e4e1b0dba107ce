-- `opener_at` meets its contract: the byte of the record of place i, less one. Assumes nothing.
use Rattle.store.specs.Decode.{opener_for}
use Rattle.tallies.proofs.Values.{told_less}
use Rattle.store.proofs.opener_at.Goals as goal

pub returns : goal.returns
unfolding opener_for
returns c = told_less _ _ (rw (c.get-number.ensures.0, c.tally_place.ensures.0) at c.checked_sub.ensures)
