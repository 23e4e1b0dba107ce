-- `blame_at` meets its contract: two bytes at place i. Assumes nothing.
use Rattle.store.specs.Decode.{blame_for}
use Rattle.store.proofs.blame_at.Goals as goal

pub returns : goal.returns
unfolding blame_for
returns c =
    rw (← c.blame_place.ensures.0) c.get_two.ensures
