-- `plain_blames::complain` meets its contract: the blame is said, then joined. Assumes nothing.
use mathlib.Core.Path.{sym, ◌∙◌}
use native.Mathlib.Omega.{arith}
use Rattle.wire.specs.Meaning.{message_of}
use Rattle.wire.specs.declared.Message.TheVariants.{Blame}
use Rattle.outgoing.proofs.Writing.{length_to_all, length_write_most, says_length}
use Rattle.plain_acts.proofs.Laws.{own_small, only_small}
use Rattle.plain_blames.proofs.Laws.{calm, complained}
use Rattle.plain_blames.proofs.complain.Goals as goal

pub returns-then-not-overdue : goal.returns-then-not-overdue
returns-then-not-overdue c = calm c.args.e c.requires.0 _ c.args.at (sym c.overdue.ensures ∙ c.if-not-overdue.true)

pub overflow_cast-blame : goal.overflow_cast-blame
overflow_cast-blame c = record { fits = omega (arith, own_small c.args.e c.requires.0) }

pub to_all-next-requires : goal.to_all-next-requires
to_all-next-requires c =
    let m = message_of (Blame c.args.e.view c.args.e.settings.own) in
    (tt, omega (arith, length_to_all m, length_write_most m, c.requires.2))

pub only-mask-requires : goal.only-mask-requires
only-mask-requires c = omega (arith, own_small c.args.e c.requires.0)

pub overflow_cast-mask : goal.overflow_cast-mask
overflow_cast-mask c =
    record { fits = omega (arith, c.only-mask.ensures, only_small c.args.e.settings.own (omega (arith, own_small c.args.e c.requires.0))) }

pub blaming-requires : goal.blaming-requires
blaming-requires c =
    let m = message_of (Blame c.args.e.view c.args.e.settings.own) in
    let y = c.to_all-next.ensures in
    (c.requires.0, c.requires.1, omega (arith, y.ends, says_length y, length_to_all m, length_write_most m, c.requires.2))

pub returns : goal.returns
unfolding message_of
returns c =
    let overdue = c.overdue in
    let if1 = c.if-not-overdue in
    let to-all = c.to_all-next in let only = c.only-mask in
    complained c.args.e c.requires.0 _ c.args.at (sym overdue.ensures ∙ if1.false) to-all.ensures only.ensures c.blaming.ensures
