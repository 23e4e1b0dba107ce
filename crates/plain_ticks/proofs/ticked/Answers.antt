-- `plain_ticks::ticked` meets its contract. Assumes nothing.
use native.Mathlib.Omega.{arith}
use Rattle.plain_tables.specs.Meaning.{names, state}
use Rattle.plain_tables.specs.declared.Cause.TheVariants.{Split}
use Rattle.plain_messages.proofs.Laws.{few_statements_lem}
use Rattle.plain_turns.proofs.Laws.{turn_as, turn_is}
use Rattle.plain_ticks.proofs.Ticking.{halted_turned, later_commits, later_worked, later_whole, some_log, no_log, some_keepable, ticking_split, ticked_turned}
use Rattle.plain_ticks.proofs.ticked.Goals as goal

pub commits-requires : goal.commits-requires
commits-requires c =
    let t = c.with_clock-later in
    let k = later_whole c.args.e t.result t.ensures c.requires.0 c.requires.2 in
    (k.sized, omega (arith, few_statements_lem t.result k))

pub returns-in_default : goal.returns-in_default
returns-in_default c =
    let t = c.with_clock-later in
    let k = later_whole c.args.e t.result t.ensures c.requires.0 c.requires.2 in
    let m = c.commits in
    let n = later_commits c.args.e t.result t.ensures (no_log t.result k m.result m.ensures c.in_default.is) in
    turn_is c.halted.ensures (turn_as (ticking_split (state c.args.e) n) (halted_turned 7 Split c.args.e _ c.requires.0.sized))

pub turned-w-requires : goal.turned-w-requires
turned-w-requires c =
    let t = c.with_clock-later in
    let k = later_whole c.args.e t.result t.ensures c.requires.0 c.requires.2 in
    let m = c.commits in
    (some_keepable t.result k m.result m.ensures c.in-Some.log c.in-Some.is, c.requires.3)

pub if_room-requires : goal.if_room-requires
if_room-requires c = c.turned-w.ensures.now.sized

pub returns : goal.returns
returns c =
    let t = c.with_clock-later in
    let m = c.commits in
    let turned = c.turned-w in
    let k = later_whole c.args.e t.result t.ensures c.requires.0 c.requires.2 in
    let l = later_commits c.args.e t.result t.ensures (some_log t.result k m.result m.ensures c.in-Some.log c.in-Some.is) in
    turn_is c.if_room.ensures
    (ticked_turned c.args.e c.requires.0 c.requires.1 c.requires.2 (names c.in-Some.log) l _ c.requires.3 turned.result _ (later_worked c.args.e t.result t.ensures (names c.in-Some.log) turned.ensures))
