-- `to_one` meets its contract: the head is put, then the station, then the message. Assumes nothing.
use lib.Dec.{lit<}
use mathlib.Core.List.{◌∷◌}
use mathlib.Core.Path.{ap, ◌∙◌}
use native.Mathlib.Omega.{arith}
use Rattle.fields.specs.Places.{put}
use Rattle.rules.specs.Messages.{effect, write}
use Rattle.wire.specs.Meaning.{message_of}
use Rattle.outgoing.proofs.Writing.{length_write_most, length_to_one, byte_says, field_says}
use Rattle.effects.proofs.to_one.Goals as goal

pub overflow_add-width : goal.overflow_add-width
overflow_add-width c =
    omega (arith, length_write_most (message_of c.args.message))

pub put-requires : goal.put-requires
put-requires c =
    omega (arith, length_to_one c.args.station (message_of c.args.message))

pub put-requires-2 : goal.put-requires-2
put-requires-2 c =
    omega (arith, length_to_one c.args.station (message_of c.args.message))

pub write_message-requires : goal.write_message-requires
write_message-requires c =
    (c.requires.0, omega (arith, length_to_one c.args.station (message_of c.args.message)))

pub returns : goal.returns
unfolding effect
returns c =
    let a = c.args in
    let m = message_of a.message in
    field_says a.out.now a.at 0x11 (a.station ∷ write m) (lit< tt) (omega (arith, length_write_most m))
    (c.put.ensures ∙ ap (put a.out.now a.at 3) (omega (arith, c.size-width.ensures)))
    (byte_says _ _ a.station (write m) (omega arith) c.put-2.ensures (omega arith) c.write_message.ensures)
