-- `keeping::is_taken` meets its contract. Assumes nothing.
use Rattle.keeping.specs.Taken.{is_taken}
use Rattle.keeping.proofs.is_taken.Goals as goal

pub returns : goal.returns
unfolding is_taken
returns c = c.is_kept.ensures
