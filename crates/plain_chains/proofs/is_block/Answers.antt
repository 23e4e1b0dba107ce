-- `plain_chains::is_block` meets its contract: the definition, word by word. Assumes nothing.
use Rattle.wire.specs.Meaning.{statement_of}
use Rattle.rules.specs.Inputs.{is_block}
use Rattle.plain_statements.specs.Meaning.{held_of}
use Rattle.plain_chains.proofs.is_block.Goals as goal

pub returns : goal.returns
unfolding is_block held_of statement_of
returns c = rw c.eq.ensures
