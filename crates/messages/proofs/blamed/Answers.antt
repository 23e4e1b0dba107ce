-- `messages::blamed` meets its contract: a blame needs no record. Assumes nothing.
use Rattle.messages.proofs.Rooms.{blaming_answers}
use Rattle.messages.proofs.blamed.Goals as goal

pub returns : goal.returns
returns c =
    blaming_answers c.args.view c.args.mask c.requires.0 c.blaming.ensures
