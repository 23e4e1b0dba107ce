-- `plain_turns::ahead` meets its contract. Assumes nothing.
use Rattle.rules.specs.Refusals as refusals
use Rattle.plain_tables.specs.Meaning.{state}
use Rattle.plain_turns.proofs.ahead.Goals as goal

pub returns : goal.returns
unfolding refusals.ahead state
returns c =
    rw (c.from.ensures, c.from-2.ensures, c.view_of.ensures)
