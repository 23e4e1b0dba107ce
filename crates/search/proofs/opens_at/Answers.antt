-- `search::opens_at` meets its contract. Assumes nothing.
use Rattle.store.specs.Decode.{statement_at, kind_at}
use Rattle.search.proofs.opens_at.Goals as goal

pub returns : goal.returns
unfolding statement_at kind_at
returns c =
    rw (c.kind_at.ensures, c.view_at.ensures)
