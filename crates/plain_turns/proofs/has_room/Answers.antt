-- `plain_turns::has_room` meets its contract. Assumes nothing.
use Rattle.plain_turns.proofs.Laws.{room_is}
use Rattle.plain_turns.proofs.has_room.Goals as goal

pub returns : goal.returns
returns c =
    room_is c.args.e c.requires
