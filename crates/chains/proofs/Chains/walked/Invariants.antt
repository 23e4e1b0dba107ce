-- `chains::Chains::walked` meets its contract. Assumes nothing.
use Rattle.std.proofs.Common.{◌≡◌}
use Rattle.rules.specs.Lists.{any}
use Rattle.chains.specs.Chains.{behind, Walk, is_of}
use Rattle.chains.proofs.Chains.walked.Given as goal

abbrev pub invariant-loop-rest : goal.invariant-loop-rest
invariant-loop-rest l =
    Walk (is_of l.store l.base l.size l.key l.at) l.count l.rest l.self.nexts × (any (is_of l.store l.base l.size l.key l.at) (behind l.count l.left) ≡ any (is_of l.store l.base l.size l.key l.at) (behind l.count l.rest))

abbrev pub decreases-loop-rest : goal.decreases-loop-rest
decreases-loop-rest l = l.rest
