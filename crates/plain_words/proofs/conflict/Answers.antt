-- `plain_words::conflict` meets its contract. Assumes nothing.
use Rattle.wire.specs.Meaning.{statement_of}
use Rattle.rules.specs.Words.{conflict}
use Rattle.plain_words.proofs.conflict.Goals as goal

pub returns : goal.returns
unfolding conflict statement_of
returns c =
    rw (c.same_statement.ensures, c.against.ensures, c.against-2.ensures)
