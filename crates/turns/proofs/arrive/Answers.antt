-- `turns::arrive` meets its contract: the set, the pair, or the votes. Assumes nothing.
use Rattle.turns.proofs.Arriving.{read_linked, arrives_full, pair_inside, arrives_pair, arrives_votes, order_few}
use Rattle.moments.proofs.Moments.{view_of_loaded}
use Rattle.store.proofs.Forms.{form_long, form_statements}
use native.Mathlib.Omega.{arith}
use Rattle.laws.proofs.Bounds.{statements_most, statements_some}
use Rattle.store.specs.Layout.{size_in}
use Rattle.turns.proofs.arrive.Goals as goal

pub load-station-requires : goal.load-station-requires
load-station-requires c =
    omega (arith, form_long _ c.requires.0.form)

pub blame_full-requires : goal.blame_full-requires
blame_full-requires c =
    let pre = c.requires in
    (pre.0.form, view_of_loaded pre.0 c.load-station.result c.load-station.ensures)

pub quit_with_set-requires : goal.quit_with_set-requires
quit_with_set-requires c =
    let pre = c.requires in
    let load = c.load-station in
    (pre.0, view_of_loaded pre.0 load.result load.ensures, omega (arith, pre.1, statements_some (size_in c.args.store.now)))

pub returns-then-blame_full : goal.returns-then-blame_full
returns-then-blame_full c =
    let pre = c.requires in
    let load = c.load-station in
    let blame-full = c.blame_full in
    let if1 = c.if-blame_full in
    let quit-with-set = c.quit_with_set in
    arrives_full pre.0 load.result load.ensures blame-full.result blame-full.ensures if1.true quit-with-set.ensures

pub statement_at-earlier-requires : goal.statement_at-earlier-requires
statement_at-earlier-requires c =
    let pre = c.requires in
    let load = c.load-station in
    let blame-full = c.blame_full in
    let if1 = c.if-blame_full in
    let find-pair = c.find_pair in
    (form_long _ pre.0.form, omega (arith, pair_inside pre.0 load.result load.ensures blame-full.result blame-full.ensures if1.false find-pair.result find-pair.ensures c.in-Some.i c.in-Some.j c.in-Some.is, form_statements _ pre.0.form))

pub statement_at-later-requires : goal.statement_at-later-requires
statement_at-later-requires c =
    let pre = c.requires in
    let load = c.load-station in
    let blame-full = c.blame_full in
    let if1 = c.if-blame_full in
    let find-pair = c.find_pair in
    (form_long _ pre.0.form, omega (arith, pair_inside pre.0 load.result load.ensures blame-full.result blame-full.ensures if1.false find-pair.result find-pair.ensures c.in-Some.i c.in-Some.j c.in-Some.is, form_statements _ pre.0.form))

pub quit_with_pair-requires : goal.quit_with_pair-requires
quit_with_pair-requires c =
    let args = c.args in let pre = c.requires in
    let load = c.load-station in
    let blame-full = c.blame_full in
    let if1 = c.if-blame_full in
    let find-pair = c.find_pair in
    let statement-at = c.statement_at-earlier in
    let statement-at2 = c.statement_at-later in
    let k = pre.0 in
    let d = pair_inside pre.0 load.result load.ensures blame-full.result blame-full.ensures if1.false find-pair.result find-pair.ensures c.in-Some.i c.in-Some.j c.in-Some.is in
    (k, read_linked k c.in-Some.i statement-at.result d.0 statement-at.ensures, read_linked k c.in-Some.j statement-at2.result d.1 statement-at2.ensures, omega (arith, pre.1, statements_some (size_in args.store.now)))

pub vote_in_order-requires : goal.vote_in_order-requires
vote_in_order-requires c =
    let pre = c.requires in
    let load = c.load-station in
    let o = c.in_order-count in
    let f = order_few pre.0 load.result load.ensures _ o.result o.ensures in
    let m = statements_most (size_in c.args.store.now) in
    record { formed = pre.0; few = omega (arith, f, m); long = omega (arith, f, m, o.auto.order, pre.2); inside = o.ensures.inside; space = omega (arith, f, pre.1) }

pub returns-in-Some : goal.returns-in-Some
returns-in-Some c =
    let pre = c.requires in
    let load = c.load-station in
    let blame-full = c.blame_full in
    let if1 = c.if-blame_full in
    let find-pair = c.find_pair in
    let statement-at = c.statement_at-earlier in
    let statement-at2 = c.statement_at-later in
    let quit-with-pair = c.quit_with_pair in
    arrives_pair pre.0 load.result load.ensures blame-full.result blame-full.ensures if1.false find-pair.result find-pair.ensures c.in-Some.i c.in-Some.j c.in-Some.is statement-at.result statement-at2.result statement-at.ensures statement-at2.ensures quit-with-pair.ensures

pub returns-in-None : goal.returns-in-None
returns-in-None c =
    let pre = c.requires in
    let load = c.load-station in
    let blame-full = c.blame_full in
    let if1 = c.if-blame_full in
    let find-pair = c.find_pair in
    let in_order_lem = c.in_order-count in
    let vote-in-order = c.vote_in_order in
    arrives_votes pre.0 load.result load.ensures blame-full.result blame-full.ensures if1.false find-pair.result find-pair.ensures _ _ c.in-None.is in_order_lem.ensures vote-in-order.ensures
