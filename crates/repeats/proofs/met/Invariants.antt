-- `repeats::met` meets its contract. Assumes nothing.
use Rattle.repeats.specs.Repeats.{is_same}
use Rattle.store.specs.Decode.{statement_at}
use Rattle.chains.specs.Chains.{behind, Walk}
use Rattle.rules.specs.Lists.{any}
use mathlib.Core.Path.{◌≡◌}
use Rattle.repeats.proofs.met.Given as goal

abbrev pub invariant-loop-rest : goal.invariant-loop-rest
invariant-loop-rest l =
    Walk (is_same l.store (statement_at l.store l.i)) l.count l.rest l.hung.nexts × (any (is_same l.store (statement_at l.store l.i)) (behind l.count l.left) ≡ any (is_same l.store (statement_at l.store l.i)) (behind l.count l.rest))

abbrev pub decreases-loop-rest : goal.decreases-loop-rest
decreases-loop-rest l =
    l.rest
