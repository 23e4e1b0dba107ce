-- `turns::entered` meets its contract: the header is left, and the status is said unless the station leads. Assumes nothing.
use Rattle.turns.proofs.Entering.{status_bytes, leader_small, goes_as_leader, goes_with_status}
use Rattle.moments.proofs.Moments.{view_limits, some_stations}
use Rattle.store.proofs.Forms.{form_long}
use native.Mathlib.Omega.{arith}
use Rattle.wire.specs.Meaning.{message_of}
use Rattle.fields.specs.Names.{name_of}
use Rattle.turns.proofs.entered.Goals as goal

pub load-station-requires : goal.load-station-requires
load-station-requires c =
    omega (arith, form_long _ c.requires.0.form)

pub overflow_add-view : goal.overflow_add-view
overflow_add-view c =
    let load = c.load-station in
    omega (arith, view_limits c.requires.0 load.result load.ensures)

pub leader-to-requires : goal.leader-to-requires
leader-to-requires c =
    let load = c.load-station in
    some_stations c.requires.0 load.result load.ensures

pub returns-then-to-settings : goal.returns-then-to-settings
returns-then-to-settings c =
    let args = c.args in
    let pre = c.requires in
    let load = c.load-station in
    let highest = c.highest-lock in
    let enter = c.enter in
    let leader = c.leader-to in
    goes_as_leader pre.0 load.result load.ensures highest.result highest.ensures leader.result leader.ensures enter.ensures args.out.now args.at c.if-to-settings.true

pub overflow_cast-to : goal.overflow_cast-to
overflow_cast-to c =
    let pre = c.requires in
    let load = c.load-station in
    let highest = c.highest-lock in
    let leader = c.leader-to in
    record { fits = leader_small pre.0 load.result load.ensures highest.result highest.ensures leader.result leader.ensures }

pub to_one-requires : goal.to_one-requires
unfolding message_of
to_one-requires c =
    let pre = c.requires in
    let highest = c.highest-lock in
    let leader = c.leader-to in
    let t = highest.result in (tt, omega (arith, status_bytes leader.result t.height (name_of t.name) t.view t.mask, pre.2))

pub returns : goal.returns
unfolding message_of
returns c =
    let pre = c.requires in
    let load = c.load-station in
    let highest = c.highest-lock in
    let enter = c.enter in
    let leader = c.leader-to in
    let if1 = c.if-to-settings in
    goes_with_status pre.0 load.result load.ensures highest.result highest.ensures leader.result leader.ensures enter.ensures if1.false c.to_one.ensures
