-- `plain_acts::ballot` meets its contract. Assumes nothing.
use native.Mathlib.Omega.{arith}
use Rattle.rules.specs.Messages.{to_all}
use Rattle.rules.specs.Inputs as inputs
use Rattle.wire.specs.Meaning.{statement_of, message_of}
use Rattle.outgoing.proofs.Writing.{length_to_all, length_write_most, says_length}
use Rattle.plain_tables.specs.Meaning.{state}
use Rattle.wire.specs.declared.Message.TheVariants.{Stated, Vote}
use Rattle.plain_acts.proofs.Laws.{own_small, says_two}
use Rattle.plain_acts.proofs.ballot.Goals as goal

pub overflow_cast-own : goal.overflow_cast-own
overflow_cast-own c =
    record { fits = omega (arith, own_small c.args.e c.requires.0) }

pub to_all-next-requires : goal.to_all-next-requires
to_all-next-requires c =
    let m = message_of (Stated c.args.x) in
    (c.requires.1, omega (arith, length_to_all m, length_write_most m, c.requires.2))

pub to_all-requires : goal.to_all-requires
to_all-requires c =
    let a = c.args in let pre = c.requires in
    let to-all = c.to_all-next in
    let m = message_of (Vote a.x.view a.x.height a.x.name a.e.settings.own) in
    let n = message_of (Stated a.x) in
    (tt, omega (arith, length_to_all m, length_write_most m, length_to_all n, length_write_most n, to-all.ensures.ends, says_length to-all.ensures, pre.2))

pub returns : goal.returns
unfolding inputs.ballot state statement_of message_of
returns c =
    let a = c.args in
    says_two (to_all (message_of (Stated a.x))) (to_all (message_of (Vote a.x.view a.x.height a.x.name a.e.settings.own))) c.to_all-next.ensures c.to_all.ensures
