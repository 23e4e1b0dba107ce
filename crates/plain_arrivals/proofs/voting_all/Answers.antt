-- Answers to the goals of `plain_arrivals::voting_all`. Assumes nothing.
use mathlib.Core.Path.{refl}
use native.Mathlib.Omega.{arith}
use lib.ListN.{get_or}
use Rattle.plain_statements.specs.Meaning.{blank}
use Rattle.plain_tables.specs.Meaning.{state}
use Rattle.plain_arrivals.proofs.Laws.{held_certifies, held_linked, next_votable, votes_end, votes_again}
use Rattle.plain_arrivals.proofs.voting_all.Goals as goal

pub loop-i-init : goal.loop-i-init
loop-i-init c =
    let p = c.requires in
    record { up = omega arith; long = refl; space = omega (arith, p.4); sized = p.1; free = p.2; votable = p.3; does = λ o' r y. y }

pub voting-w-requires : goal.voting-w-requires
voting-w-requires c =
    let a = c.args in let p = c.requires in
    let l = c.loop-i in
    let x = get_or a.xs.items l.i blank in
    let v = next_votable a.xs p.0 blank l.i c.loop-i-test.true (state l.engine).tallies l.invariant.votable in
    (l.invariant.sized, l.invariant.free, held_certifies x v.certifies, held_linked x v.certifies, omega (arith, l.invariant.space, c.loop-i-test.true))

pub loop-i-preserved : goal.loop-i-preserved
loop-i-preserved c =
    let l = c.loop-i in
    votes_again c.args.xs c.requires.0 blank l.i c.loop-i-test.true l.invariant c.voting-w.ensures

pub shape_of-out : goal.shape_of-out
shape_of-out c = c.loop-i.invariant.long

pub returns : goal.returns
returns c = let v = c.loop-i in let a = c.args in v.invariant.does _ _ (votes_end a.xs v.engine _ v.i v.next v.invariant.sized c.loop-i-test.false)
