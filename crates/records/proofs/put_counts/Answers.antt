-- `put_counts` meets its contract: the three counts are put one after the other. Assumes nothing.
use Rattle.records.proofs.put_counts.Goals as goal

pub returns : goal.returns
returns c = cc
