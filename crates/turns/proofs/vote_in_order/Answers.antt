-- Answers to the goals of `turns::vote_in_order`. Assumes nothing.
use Rattle.turns.proofs.Ballots.{voted_none, voted_done, voted_stands, voted_next}
use Rattle.store.proofs.Forms.{form_long, form_statements}
use native.Mathlib.Omega.{arith}
use mathlib.Core.Path.{ap}
use Rattle.rules.specs.Limits.{most_statements}
use Rattle.moments.proofs.Sizes.{same_long}
use Rattle.turns.proofs.vote_in_order.Goals as goal

pub loop-j-init : goal.loop-j-init
loop-j-init c =
    let args = c.args in
    voted_none args.store.now args.order.now args.out.now args.at args.count c.requires.formed

pub bounds-order-j : goal.bounds-order-j
bounds-order-j c =
    omega (arith, c.requires.long, c.loop-j-test.true)

pub statement_at-x-requires : goal.statement_at-x-requires
statement_at-x-requires c =
    let pre = c.requires in
    let loop = c.loop-j in
    (form_long _ loop.invariant.formed.form, omega (arith, (pre.inside loop.j c.loop-j-test.true), form_statements _ pre.formed.form, ap most_statements loop.invariant.size))

pub find_tally-tally-requires : goal.find_tally-tally-requires
find_tally-tally-requires c =
    c.loop-j.invariant.formed.form

pub voting-next-requires : goal.voting-next-requires
voting-next-requires c =
    let args = c.args in let pre = c.requires in
    let l = c.loop-j in
    let loop-test = c.loop-j-test in
    let statement-at = c.statement_at-x in
    let own_Block = c.own_block in
    (l.invariant.formed, rw c.from-place.ensures (voted_stands args.store.now args.order.now args.out.now args.at args.count l.invariant (pre.inside l.j loop-test.true) statement-at.result (simp c.from-place.ensures at statement-at.ensures)), rw (← own_Block.ensures) c.find_tally-tally.ensures, omega (arith, l.invariant.ends, l.invariant.long, pre.space, loop-test.true))

pub loop-j-preserved : goal.loop-j-preserved
loop-j-preserved c =
    let args = c.args in let pre = c.requires in
    let loop = c.loop-j in
    let loop-test = c.loop-j-test in
    let statement-at = c.statement_at-x in
    let voting = c.voting-next in
    voted_next args.store.now args.order.now args.out.now args.at args.count loop.invariant (pre.inside loop.j loop-test.true) statement-at.result (simp c.from-place.ensures at statement-at.ensures) loop-test.true voting.ensures

pub shape_of-store : goal.shape_of-store
shape_of-store c =
    same_long c.requires.formed.form c.loop-j.invariant.formed.form c.loop-j.invariant.size

pub shape_of-out : goal.shape_of-out
shape_of-out c =
    c.loop-j.invariant.long

pub returns : goal.returns
returns c =
    let args = c.args in
    voted_done args.store.now args.order.now args.out.now args.at args.count c.loop-j.invariant (omega (arith, c.loop-j-test.false))
