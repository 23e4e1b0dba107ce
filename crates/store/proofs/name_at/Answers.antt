-- `name_at` meets its contract: 32 bytes at place i. Assumes nothing.
use Rattle.store.specs.Decode.{name_for}
use Rattle.store.proofs.name_at.Goals as goal

pub returns : goal.returns
unfolding name_for
returns c =
    rw (← c.name_place.ensures.0) c.get_name.ensures.0
