-- `numbers::mask` meets its contract. The invariant: the stations from a place on decide. Assumes nothing.
use Rattle.text.specs.Words.{mask, stations, split}
use Prim.Native.Nat.{◌≤◌, ◌-◌}
use mathlib.Core.Path.{◌≡◌}
use lib.ListN.{length, drop}
use Rattle.numbers.proofs.mask.Given as goal

abbrev pub invariant-loop-station : goal.invariant-loop-station
invariant-loop-station l =
    (l.from ≤ length l.word) × (mask l.word ≡ stations l.joined (split (drop l.from l.word)))

abbrev pub decreases-loop-station : goal.decreases-loop-station
decreases-loop-station l = length l.word - l.from
