-- `message_allowed` meets its contract: by the case of the message. Assumes nothing.
use Rattle.rules.specs.Messages.{allowed}
use Rattle.wire.specs.Meaning.{message_of}
use Rattle.allowed.proofs.message_allowed.Goals as goal

pub returns-in-Stated : goal.returns-in-Stated
unfolding message_of
returns-in-Stated c =
    rw c.in-Stated.is c.statement_allowed.ensures

pub returns-in-Vote : goal.returns-in-Vote
unfolding message_of allowed
returns-in-Vote c =
    rw (c.in-Vote.is, c.view_allowed.ensures, c.block_allowed.ensures)

pub returns-in-Blame : goal.returns-in-Blame
unfolding message_of allowed
returns-in-Blame c =
    rw (c.in-Blame.is, c.view_allowed-in-Blame.ensures)

pub returns-in-BlameSet : goal.returns-in-BlameSet
unfolding message_of allowed
returns-in-BlameSet c =
    rw (c.in-BlameSet.is, c.view_allowed-in-BlameSet.ensures, c.mask_allowed.ensures)

pub returns-in-Status : goal.returns-in-Status
unfolding message_of allowed
returns-in-Status c =
    rw (c.in-Status.is, c.block_allowed-block.ensures, c.certificate_allowed.ensures)
