-- `plain_turns::heard` meets its contract. Assumes nothing.
use mathlib.Core.Path.{sym, ◌∙◌}
use native.Mathlib.Omega.{arith}
use Rattle.wire.specs.Meaning.{message_of}
use Rattle.plain_tables.specs.Meaning.{state}
use Rattle.plain_turns.proofs.Laws.{refused_turned, room_turned, heard_used, heard_free, turn_as, turn_is}
use Rattle.plain_turns.proofs.heard.Goals as goal

pub returns-then-used_up : goal.returns-then-used_up
returns-then-used_up c =
    let a = c.args in
    turn_is c.refused.ensures (turn_as (heard_used (message_of a.message) (state a.e) (sym c.used_up.ensures ∙ c.if-used_up.true)) (refused_turned 12 a.e _ c.requires.0.sized))

pub handled-w-requires : goal.handled-w-requires
handled-w-requires c =
    (c.requires.0, c.requires.1, omega (arith, c.requires.2))

pub if_room-requires : goal.if_room-requires
if_room-requires c =
    c.handled-w.ensures.now.sized

pub returns : goal.returns
returns c =
    let a = c.args in let pre = c.requires in
    let used-up = c.used_up in let if1 = c.if-used_up in
    let handled = c.handled-w in
    turn_is c.if_room.ensures
    (turn_as (heard_free (message_of a.message) (state a.e) (sym used-up.ensures ∙ if1.false))
    (room_turned a.e pre.0.sized (message_of a.message) _ pre.2 handled.result _ handled.ensures))
