-- `stated::vote_in_order` meets its contract. Assumes nothing.
use Rattle.stated.proofs.Parts.{vote_none, vote_some}
use Rattle.stated.proofs.vote_in_order.Goals as goal

pub returns-in-Some : goal.returns-in-Some
returns-in-Some c = vote_some _ _ _ c.in-Some.is

pub returns-in-None : goal.returns-in-None
returns-in-None c = vote_none _ _ c.in-None.is
