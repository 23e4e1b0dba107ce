-- `plain_messages::both` meets its contract. Assumes nothing.
use native.Mathlib.Omega.{arith}
use Rattle.rules.specs.Messages.{to_all}
use Rattle.wire.specs.Meaning.{message_of}
use Rattle.wire.specs.declared.Message.TheVariants.{Stated}
use Rattle.outgoing.proofs.Writing.{length_to_all, length_write_most, says_length}
use Rattle.plain_acts.proofs.Laws.{says_two}
use Rattle.plain_messages.proofs.both.Goals as goal

pub to_all-next-requires : goal.to_all-next-requires
to_all-next-requires c =
    let m = message_of (Stated c.args.first) in
    (c.requires.0, omega (arith, length_to_all m, length_write_most m, c.requires.2))

pub to_all-requires : goal.to_all-requires
to_all-requires c =
    let a = c.args in let pre = c.requires in let to-all = c.to_all-next in
    let m = message_of (Stated a.first) in
    let n = message_of (Stated a.second) in
    (pre.1, omega (arith, length_to_all m, length_write_most m, length_to_all n, length_write_most n, to-all.ensures.ends, says_length to-all.ensures, pre.2))

pub returns : goal.returns
unfolding message_of
returns c =
    let a = c.args in
    says_two (to_all (message_of (Stated a.first))) (to_all (message_of (Stated a.second))) c.to_all-next.ensures c.to_all.ensures
