-- `hex_words::hex_number` meets its contract. The invariant: the digits read so far say the value, and the rest decides. Assumes nothing.
use Prim.Native.Nat.{◌<◌, ◌^◌}
use mathlib.Core.Path.{◌≡◌}
use lib.ListN.{drop}
use Rattle.text.specs.Words.{value as said}
use Rattle.hex_words.proofs.hex_number.Given as goal

abbrev pub invariant-loop-b : goal.invariant-loop-b
invariant-loop-b l =
    (l.value < 16 ^ l.b-index) × (said 16 0 l.word ≡ said 16 l.value (drop l.b-index l.word))
