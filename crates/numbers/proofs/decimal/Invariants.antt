-- `numbers::decimal` meets its contract. The invariant: the digits read so far say the value, and the rest decides. Assumes nothing.
use Prim.Native.Nat.{◌≤◌, ◌<◌}
use mathlib.Core.Path.{◌≡◌}
use lib.ListN.{length, drop}
use Rattle.rules.specs.Lists.{all}
use Rattle.text.specs.Words.{is_decimal, value as said}
use Rattle.numbers.proofs.decimal.Given as goal

abbrev pub invariant-loop-b : goal.invariant-loop-b
invariant-loop-b l =
    (0 < length l.word) × (l.value ≤ l.most) × (all is_decimal l.word ≡ all is_decimal (drop l.b-index l.word)) × (said 10 0 l.word ≡ said 10 l.value (drop l.b-index l.word))
