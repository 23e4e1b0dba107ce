-- `plain_entries::report` meets its contract. Assumes nothing.
use Prim.Native.Nat.{◌+◌}
use native.Mathlib.Omega.{arith}
use Rattle.laws.proofs.Allowed.{sizes, leader_lt}
use Rattle.settings.specs.Made.{settings_of}
use Rattle.wire.specs.Meaning.{message_of}
use Rattle.wire.specs.declared.Message.TheVariants.{Status}
use Rattle.outgoing.proofs.Writing.{length_to_one, length_write_most}
use Rattle.plain_entries.proofs.Laws.{kept_quiet, reported}
use Rattle.plain_entries.proofs.report.Goals as goal

pub leader-to-requires : goal.leader-to-requires
leader-to-requires c = omega (arith, (sizes (settings_of c.args.e.settings) c.requires.0.good).least)

pub returns-then-to-settings : goal.returns-then-to-settings
returns-then-to-settings c = kept_quiet c.args.e _ c.args.at _ c.leader-to.ensures c.if-to-settings.true

pub overflow_cast-to : goal.overflow_cast-to
overflow_cast-to c =
    let z = sizes (settings_of c.args.e.settings) c.requires.0.good in
    record { fits = omega (arith, c.leader-to.ensures, leader_lt (c.args.e.view + 1) z, z.most) }

pub to_one-requires : goal.to_one-requires
to_one-requires c =
    let t = c.args.lock in
    let m = message_of (Status t.height t.name t.view t.mask) in
    (tt, omega (arith, length_to_one c.leader-to.result m, length_write_most m, c.requires.3))

pub returns : goal.returns
unfolding message_of
returns c =
    let leader = c.leader-to in let if1 = c.if-to-settings in
    reported c.args.e _ c.args.at _ leader.ensures c.args.lock c.requires.2 if1.false c.to_one.ensures
