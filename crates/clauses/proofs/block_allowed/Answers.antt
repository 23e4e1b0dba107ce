-- `clauses::block_allowed` meets its contract: two tests alike are `iff`. Assumes nothing.
use Rattle.laws.proofs.Truths.{beq_iff}
use Rattle.rules.specs.Messages.{block_allowed}
use Rattle.clauses.proofs.block_allowed.Goals as goal

pub returns : goal.returns
unfolding block_allowed
returns c =
    rw (c.is_zero-zero.ensures, beq_iff)
