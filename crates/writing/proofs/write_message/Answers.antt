-- `write_message` meets its contract: by the case of the message, with the room for its kind. Assumes nothing.
use lib.ListN.{length}
use mathlib.Core.Path.{ap, ◌∙◌}
use Rattle.rules.specs.Messages.{size}
use Rattle.wire.specs.Meaning.{message_of}
use Rattle.wire.proofs.Statements.{new_view_said_lem, propose_said_lem}
use Rattle.outgoing.proofs.Writing.{room_of_lem}
use Rattle.writing.proofs.write_message.Goals as goal

pub new_view_out-requires : goal.new_view_out-requires
unfolding message_of size
new_view_out-requires c =
    let x = c.in-Stated.x in
    let link = rw c.in-Stated.is at c.requires.0 in
    (c.if-x.true, link c.if-x.true, room_of_lem c.args.at (length c.args.out.now) (ap message_of c.in-Stated.is ∙ new_view_said_lem x c.if-x.true) c.requires.1)

pub propose_out-requires : goal.propose_out-requires
unfolding message_of size
propose_out-requires c =
    let x = c.in-Stated.x in
    (c.if-x.false, room_of_lem c.args.at (length c.args.out.now) (ap message_of c.in-Stated.is ∙ propose_said_lem x c.if-x.false) c.requires.1)

pub vote_out-requires : goal.vote_out-requires
unfolding message_of size
vote_out-requires c =
    room_of_lem c.args.at (length c.args.out.now) (ap message_of c.in-Vote.is) c.requires.1

pub blame_out-requires : goal.blame_out-requires
unfolding message_of size
blame_out-requires c =
    room_of_lem c.args.at (length c.args.out.now) (ap message_of c.in-Blame.is) c.requires.1

pub blame_set_out-requires : goal.blame_set_out-requires
unfolding message_of size
blame_set_out-requires c =
    room_of_lem c.args.at (length c.args.out.now) (ap message_of c.in-BlameSet.is) c.requires.1

pub status_out-requires : goal.status_out-requires
unfolding message_of size
status_out-requires c =
    room_of_lem c.args.at (length c.args.out.now) (ap message_of c.in-Status.is) c.requires.1

pub returns-then-x : goal.returns-then-x
unfolding message_of
returns-then-x c =
    rw c.in-Stated.is c.new_view_out.ensures

pub returns-else-x : goal.returns-else-x
unfolding message_of
returns-else-x c =
    rw c.in-Stated.is c.propose_out.ensures

pub returns-in-Vote : goal.returns-in-Vote
unfolding message_of
returns-in-Vote c =
    rw c.in-Vote.is c.vote_out.ensures

pub returns-in-Blame : goal.returns-in-Blame
unfolding message_of
returns-in-Blame c =
    rw c.in-Blame.is c.blame_out.ensures

pub returns-in-BlameSet : goal.returns-in-BlameSet
unfolding message_of
returns-in-BlameSet c =
    rw c.in-BlameSet.is c.blame_set_out.ensures

pub returns-in-Status : goal.returns-in-Status
unfolding message_of
returns-in-Status c =
    rw c.in-Status.is c.status_out.ensures
