-- `plain_statements::uses` meets its contract. Assumes nothing.
use Rattle.wire.specs.Meaning.{statement_of}
use Rattle.plain_statements.proofs.uses.Goals as goal

pub returns : goal.returns
unfolding statement_of
returns c =
    rw (c.eq.ensures, c.eq-2.ensures)
