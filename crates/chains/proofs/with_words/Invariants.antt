-- `chains::with_words` meets its contract. Assumes nothing.
use Rattle.std.proofs.Common.{◌≡◌, ◌≤◌}
use Rattle.chains.specs.Chains.{stir_words}
use Rattle.chains.proofs.with_words.Given as goal

abbrev pub invariant-loop-k : goal.invariant-loop-k
invariant-loop-k l =
    (l.k ≤ l.words) × (l.mixed ≡ stir_words l.store l.mix l.at l.k)
