-- `acts::send_both` meets its contract. Assumes nothing.
use Rattle.acts.proofs.Works.{two_lengths, says_two}
use Rattle.outgoing.proofs.Writing.{says_length}
use Rattle.wire.specs.Meaning.{message_of}
use Rattle.rules.specs.Messages.{to_all}
use native.Mathlib.Omega.{arith}
use Rattle.acts.proofs.send_both.Goals as goal

pub to_all-next-requires : goal.to_all-next-requires
to_all-next-requires c =
    (c.requires.0, omega (arith, two_lengths (to_all (message_of c.args.first)) (to_all (message_of c.args.second)), c.requires.2))

pub to_all-requires : goal.to_all-requires
to_all-requires c =
    let args = c.args in let pre = c.requires in let to-all = c.to_all-next in
    (pre.1, omega (arith, two_lengths (to_all (message_of args.first)) (to_all (message_of args.second)), pre.2, to-all.ensures.ends, says_length to-all.ensures))

pub returns : goal.returns
returns c =
    let args = c.args in let to-all = c.to_all-next in
    says_two (to_all (message_of args.first)) (to_all (message_of args.second)) to-all.ensures c.to_all.ensures
