-- `to_all` meets its contract: the head is put, then the message. Assumes nothing.
use lib.Dec.{lit<}
use mathlib.Core.Path.{ap, ◌∙◌}
use native.Mathlib.Omega.{arith}
use Prim.Native.Nat.{ℕ, ◌+◌}
use Rattle.fields.specs.Places.{put}
use Rattle.rules.specs.Messages.{effect, write}
use Rattle.wire.specs.Meaning.{message_of}
use Rattle.outgoing.proofs.Writing.{length_write_most, length_to_all, field_says}
use Rattle.effects.proofs.to_all.Goals as goal

pub overflow_add-width : goal.overflow_add-width
overflow_add-width c =
    omega (arith, length_write_most (message_of c.args.message))

pub put-requires : goal.put-requires
put-requires c =
    omega (arith, length_to_all (message_of c.args.message))

pub write_message-requires : goal.write_message-requires
write_message-requires c =
    (c.requires.0, omega (arith, length_to_all (message_of c.args.message)))

pub returns : goal.returns
unfolding effect
returns c =
    let a = c.args in
    let m = message_of a.message in
    field_says a.out.now a.at 0x10 (write m) (lit< tt) (omega (arith, length_write_most m))
    (c.put.ensures ∙ ap (λ (n : ℕ). put a.out.now a.at 3 (0x100000 + n)) c.size-width.ensures) c.write_message.ensures
