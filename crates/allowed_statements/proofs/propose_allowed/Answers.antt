-- `propose_allowed` meets its contract: each test is a clause; at height 0 one fails. Assumes nothing.
use Rattle.settings.specs.Made.{settings_of}
use Rattle.allowed_statements.proofs.Tests.{propose_low, propose_allowed}
use Rattle.allowed_statements.proofs.propose_allowed.Goals as goal

pub returns-then-height-lt1 : goal.returns-then-height-lt1
returns-then-height-lt1 c =
    propose_low (settings_of c.args.settings) c.args.statement c.requires c.if-height-lt1.true

pub returns : goal.returns
returns c =
    rw (c.view_allowed.ensures, c.block_allowed.ensures, c.block_allowed-2.ensures, c.mask_allowed.ensures, c.leads.ensures)
    (propose_allowed (settings_of c.args.settings) c.args.statement c.requires c.if-height-lt1.false)
