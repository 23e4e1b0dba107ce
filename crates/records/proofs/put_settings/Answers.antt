-- `put_settings` meets its contract: n, D and the own number are put one after the other. Assumes nothing.
use Rattle.records.proofs.put_settings.Goals as goal

pub returns : goal.returns
returns c = cc
