-- `chains::Chains::has_block` meets its contract. Assumes nothing.
use Rattle.std.proofs.Common.{sym, arith}
use Rattle.chains.proofs.Walks.{walk_end}
use Rattle.chains.proofs.Chains.has_block.Goals as goal

pub overflow_cast-left : goal.overflow_cast-left
overflow_cast-left c =
    let p = c.requires in
    record { fits = omega (arith, p.5.within, p.3) }

pub returns-then-left-eq0 : goal.returns-then-left-eq0
returns-then-left-eq0 c = sym (walk_end _ _ _ (omega (arith, c.if-left-eq0.true)))

pub walked-requires : goal.walked-requires
walked-requires c =
    let p = c.requires in
    (p.1, p.2, p.3, p.4, p.5)

pub returns : goal.returns
returns c = c.walked.ensures
