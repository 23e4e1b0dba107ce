-- `plain_arrivals::arrive` meets its contract. Assumes nothing.
use mathlib.Core.Path.{sym, ap, ◌∙◌}
use native.Mathlib.Omega.{arith}
use Rattle.rules.specs.Words.{message}
use Rattle.wire.specs.Meaning.{statement_of, message_of}
use Rattle.wire.specs.declared.Message.TheVariants.{BlameSet}
use Rattle.outgoing.proofs.Writing.{length_to_all, length_write_most}
use Rattle.plain_statements.specs.Meaning.{held_of}
use Rattle.plain_pairs.specs.Pairs.{two_of}
use Rattle.plain_arrivals.proofs.Arriving.{ready_view, current_is, two_linked, order_votable, arrives_full, arrives_two, arrives_votes}
use Rattle.plain_arrivals.proofs.arrive.Goals as goal

pub blame_full-requires : goal.blame_full-requires
blame_full-requires c = ready_view c.args.e c.requires.0

pub blames_of-mask-requires : goal.blames_of-mask-requires
blames_of-mask-requires c = ready_view c.args.e c.requires.0

pub to_all-next-requires : goal.to_all-next-requires
to_all-next-requires c =
    let m = message_of (BlameSet c.args.e.view c.blames_of-mask.result) in
    (tt, omega (arith, length_to_all m, length_write_most m, c.requires.1))

pub returns-then-blame_full : goal.returns-then-blame_full
unfolding message_of
returns-then-blame_full c =
    let blame-full = c.blame_full in let if1 = c.if-blame_full in
    let blames-of = c.blames_of-mask in let to-all = c.to_all-next in
    arrives_full c.args.e _ c.args.at (sym blame-full.ensures ∙ if1.true) blames-of.ensures to-all.ensures c.quit-engine.ensures

pub both-next-requires : goal.both-next-requires
both-next-requires c =
    let current = c.current-current in let pair = c.pair in
    let t = c.in-Some in
    let l = two_linked c.args.e c.requires.0 current.result current.ensures.is t.x t.y (ap two_of (sym t.is) ∙ pair.ensures) in
    (l.0, l.1, omega (arith, c.requires.1))

pub voting_all-requires : goal.voting_all-requires
voting_all-requires c =
    let current = c.current-current in
    let o = c.in_order-order in
    (o.ensures.within, c.requires.0.sized, c.requires.0.free, order_votable c.args.e c.requires.0 current.result current.ensures.is o.result o.ensures.is, omega (arith, c.requires.1, o.ensures.within.most))

pub returns-in-Some : goal.returns-in-Some
unfolding statement_of held_of message
returns-in-Some c =
    let blame-full = c.blame_full in
    let if1 = c.if-blame_full in
    let current = c.current-current in
    let pair = c.pair in let both = c.both-next in
    let t = c.in-Some in
    arrives_two c.args.e _ c.args.at (sym blame-full.ensures ∙ if1.false) current.result (current_is c.args.e c.requires.0 current.result current.ensures.is) (held_of t.x) (held_of t.y) (ap two_of (sym t.is) ∙ pair.ensures) both.ensures c.quit-engine-in-Some.ensures

pub returns-in-None : goal.returns-in-None
returns-in-None c =
    let blame-full = c.blame_full in
    let if1 = c.if-blame_full in
    let current = c.current-current in let pair = c.pair in
    let in_order_lem = c.in_order-order in
    arrives_votes c.args.e _ c.args.at (sym blame-full.ensures ∙ if1.false) current.result (current_is c.args.e c.requires.0 current.result current.ensures.is) in_order_lem.result in_order_lem.ensures.is (ap two_of (sym c.in-None.is) ∙ pair.ensures) c.voting_all.ensures
