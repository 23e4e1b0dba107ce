-- `turns::own_new_view` meets its contract: what it makes is the rules' new-view, and may be sent. Assumes nothing.
use Rattle.turns.proofs.Leading.{made_is, made_sendable}
use Rattle.store.proofs.Forms.{form_long}
use native.Mathlib.Omega.{arith}
use Rattle.acts.proofs.Votes.{own_small}
use Rattle.turns.proofs.own_new_view.Goals as goal

pub load-station-requires : goal.load-station-requires
load-station-requires c =
    omega (arith, form_long _ c.requires.0.form)

pub overflow_cast-result : goal.overflow_cast-result
overflow_cast-result c =
    let load = c.load-station in
    record { fits = omega (arith, own_small c.requires.0 load.result load.ensures) }

pub returns : goal.returns
returns c =
    let pre = c.requires in
    let load = c.load-station in
    let k = pre.0 in
    let t = c.highest-best in
    (made_is k load.result load.ensures t.result t.ensures, made_sendable k load.result load.ensures t.result t.ensures pre.1)
