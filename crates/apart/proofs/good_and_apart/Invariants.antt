-- `apart::good_and_apart` meets its contract. Assumes nothing.
use Prim.Native.Nat.{◌-◌, ◌≤◌}
use mathlib.Core.Path.{◌≡◌}
use mathlib.Core.Bool.{true}
use Rattle.rules.specs.Lists.{distinct}
use Rattle.rules.specs.WellFormed.{same_tally}
use Rattle.store.specs.Decode.{rows, tally_at}
use Rattle.chains.specs.Chains.{Chained}
use Rattle.apart.specs.Tallies.{tally_chain}
use Rattle.apart.proofs.good_and_apart.Given as goal

abbrev pub invariant-loop-i : goal.invariant-loop-i
invariant-loop-i l =
    (l.i ≤ l.count) × Chained (tally_chain l.store l.salt) l.i l.count l.hung.heads l.hung.nexts × (distinct same_tally (rows (tally_at l.store) l.i (l.count - l.i)) ≡ true)
