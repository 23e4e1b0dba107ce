-- `plain_chains::merge` meets its contract: so far they agree. Assumes nothing.
use Prim.Native.Nat.{◌-◌}
use mathlib.Core.Path.{◌≡◌}
use mathlib.Core.Bool.{true}
use Rattle.plain_tables.specs.Meaning.{names}
use Rattle.plain_chains.proofs.Merges.{agree}
use Rattle.plain_chains.proofs.merge.Given as goal

abbrev pub invariant-loop-k : goal.invariant-loop-k
invariant-loop-k l = agree l.k (names l.chain) (names l.log) ≡ true
