-- `slots::is_readable` meets its contract. Assumes nothing.
use Rattle.slots.proofs.Inputs.{readable, unreadable}
use Rattle.slots.proofs.is_readable.Goals as goal

pub returns-in_default : goal.returns-in_default
returns-in_default c = unreadable _ c.read_message.ensures c.in_default.is

pub returns : goal.returns
returns c = readable _ c.read_message.ensures c.in-Some.is
