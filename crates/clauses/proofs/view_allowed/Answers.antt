-- `clauses::view_allowed` meets its contract: its tests are the definition's. Assumes nothing.
use Rattle.rules.specs.Lists.{within}
use Rattle.rules.specs.Messages.{view_allowed}
use Rattle.clauses.proofs.view_allowed.Goals as goal

pub returns : goal.returns
unfolding view_allowed within
returns c =
    rw c.last_view.ensures
