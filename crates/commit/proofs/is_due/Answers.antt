-- `commit::is_due` meets its contract. Assumes nothing.
use Rattle.glance.proofs.Voting.{ripe_not, ripe_told, vote_missing}
use Rattle.commit.proofs.is_due.Goals as goal

pub returns-in-None : goal.returns-in-None
returns-in-None c = ripe_not _ _ _ _ (vote_missing _ _ c.vote_in.result c.vote_in.ensures c.in-None.is)

pub returns-in-Some : goal.returns-in-Some
returns-in-Some c = rw c.from.ensures (ripe_told _ _ _ _ c.vote_in.result c.vote_in.ensures _ c.in-Some.is)
