-- `plain_entries::entering` meets its contract: another phase, then the parts that the entry of a view sets. Assumes nothing.
use Rattle.plain_entries.proofs.entering.Goals as goal

pub returns : goal.returns
returns c = rw c.with_phase-next.ensures
