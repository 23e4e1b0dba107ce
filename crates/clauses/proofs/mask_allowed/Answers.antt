-- `clauses::mask_allowed` meets its contract: its tests are the definition's. Assumes nothing.
use Rattle.rules.specs.Messages.{mask_allowed}
use Rattle.clauses.proofs.mask_allowed.Goals as goal

pub returns : goal.returns
unfolding mask_allowed
returns c =
    rw (c.mask_within.ensures, c.quorum.ensures)
