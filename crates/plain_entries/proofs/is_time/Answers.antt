-- `plain_entries::is_time` meets its contract. Assumes nothing.
use Rattle.plain_entries.proofs.is_time.Goals as goal

pub returns : goal.returns
returns c = rw c.last_view-most.ensures
