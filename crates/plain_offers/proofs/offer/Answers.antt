-- `plain_offers::offer` meets its contract. Assumes nothing.
use mathlib.Core.Path.{sym, ap, ◌∙◌}
use native.Mathlib.Omega.{arith}
use Rattle.fields.specs.Names.{name_of}
use Rattle.wire.specs.Meaning.{message_of}
use Rattle.wire.specs.declared.Message.TheVariants.{Stated}
use Rattle.plain_tables.specs.Meaning.{state}
use Rattle.plain_turns.proofs.Laws.{refused_turned, room_turned, turn_as, turn_is}
use Rattle.plain_offers.specs.Offers.{offer_of}
use Rattle.plain_offers.proofs.Laws.{offer_stopped, offer_none, offer_made, made_allowed, offer_answered}
use Rattle.plain_offers.proofs.offer.Goals as goal

pub returns-then-not-running : goal.returns-then-not-running
returns-then-not-running c =
    let a = c.args in
    let k = c.requires.0 in
    offer_answered (name_of a.name) a.e k c.requires.1 _ _
    (turn_is c.refused.ensures (turn_as (offer_stopped (name_of a.name) (state a.e) (sym c.running.ensures ∙ c.if-not-running.true)) (refused_turned 3 a.e _ k.sized)))

pub handled-w-requires : goal.handled-w-requires
handled-w-requires c =
    let a = c.args in let pre = c.requires in
    let offered = c.offered in let k = pre.0 in
    (k, made_allowed (name_of a.name) a.e k pre.1 (message_of (Stated c.in-Some.x)) (ap offer_of (sym c.in-Some.is) ∙ offered.ensures), omega (arith, pre.2))

pub if_room-requires : goal.if_room-requires
if_room-requires c =
    c.handled-w.ensures.now.sized

pub returns-in-None : goal.returns-in-None
returns-in-None c =
    let a = c.args in let pre = c.requires in
    let running = c.running in let if1 = c.if-not-running in let offered = c.offered in
    let k = pre.0 in
    offer_answered (name_of a.name) a.e k pre.1 _ _
    (turn_is c.refused-in-None.ensures (turn_as (offer_none (name_of a.name) (state a.e) (sym running.ensures ∙ if1.false) (ap offer_of (sym c.in-None.is) ∙ offered.ensures)) (refused_turned 9 a.e _ k.sized)))

pub returns-in-Some : goal.returns-in-Some
returns-in-Some c =
    let a = c.args in let pre = c.requires in
    let running = c.running in
    let if1 = c.if-not-running in
    let offered = c.offered in let handled = c.handled-w in
    let k = pre.0 in
    offer_answered (name_of a.name) a.e k pre.1 _ _
    (turn_is c.if_room.ensures
    (turn_as (offer_made (name_of a.name) (state a.e) (sym running.ensures ∙ if1.false) (message_of (Stated c.in-Some.x)) (ap offer_of (sym c.in-Some.is) ∙ offered.ensures))
    (room_turned a.e k.sized (message_of (Stated c.in-Some.x)) _ pre.2 handled.result _ handled.ensures)))
