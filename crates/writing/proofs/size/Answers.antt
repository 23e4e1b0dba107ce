-- `size` meets its contract: by the case of the message, as 01's table has it. Assumes nothing.
use mathlib.Core.Path.{sym}
use Rattle.rules.specs.Messages.{size}
use Rattle.wire.specs.Meaning.{message_of}
use Rattle.wire.proofs.Statements.{new_view_said_lem, propose_said_lem}
use Rattle.laws.proofs.Lengths.{length_write}
use Rattle.writing.proofs.size.Goals as goal

pub returns-then-x : goal.returns-then-x
unfolding message_of size
returns-then-x c =
    rw (c.in-Stated.is, new_view_said_lem c.in-Stated.x c.if-x.true) (sym (length_write _))

pub returns-else-x : goal.returns-else-x
unfolding message_of size
returns-else-x c =
    rw (c.in-Stated.is, propose_said_lem c.in-Stated.x c.if-x.false) (sym (length_write _))

pub returns-in-Vote : goal.returns-in-Vote
unfolding message_of size
returns-in-Vote c =
    rw c.in-Vote.is (sym (length_write _))

pub returns-in-Blame : goal.returns-in-Blame
unfolding message_of size
returns-in-Blame c =
    rw c.in-Blame.is (sym (length_write _))

pub returns-in-BlameSet : goal.returns-in-BlameSet
unfolding message_of size
returns-in-BlameSet c =
    rw c.in-BlameSet.is (sym (length_write _))

pub returns-in-Status : goal.returns-in-Status
unfolding message_of size
returns-in-Status c =
    rw c.in-Status.is (sym (length_write _))
