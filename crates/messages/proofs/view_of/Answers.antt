-- `messages::view_of` meets its contract: by the kind of the message. Assumes nothing.
use Rattle.messages.proofs.Handling.{stated_view, vote_view, blame_view, set_view, status_view}
use Rattle.messages.proofs.view_of.Goals as goal

pub returns-in-Stated : goal.returns-in-Stated
returns-in-Stated c = stated_view c.in-Stated.is

pub returns-in-Vote : goal.returns-in-Vote
returns-in-Vote c = vote_view c.in-Vote.is

pub returns-in-Blame : goal.returns-in-Blame
returns-in-Blame c = blame_view c.in-Blame.is

pub returns-in-BlameSet : goal.returns-in-BlameSet
returns-in-BlameSet c = set_view c.in-BlameSet.is

pub returns-in-Status : goal.returns-in-Status
returns-in-Status c = status_view c.in-Status.is
