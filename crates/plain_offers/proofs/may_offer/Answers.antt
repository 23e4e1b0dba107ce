-- `plain_offers::may_offer` meets its contract. Assumes nothing.
use Rattle.rules.specs.Inputs as inputs
use Rattle.plain_tables.specs.Meaning.{state}
use Rattle.plain_offers.proofs.may_offer.Goals as goal

pub returns : goal.returns
unfolding inputs.is_opened inputs.is_used state
returns c =
    rw (c.leads-leading.ensures, c.is_opened-opened.ensures, c.is_zero-zero.ensures, c.is_used-used.ensures)
