-- `lookup::word` meets its contract: the bytes not yet read, behind those read, give the whole. Assumes nothing.
use Prim.Native.Nat.{◌-◌, ◌^◌, ◌≤◌, ◌<◌}
use mathlib.Core.Path.{◌≡◌}
use Rattle.fields.specs.Places.{number}
use Rattle.lookup.specs.Search.{turn}
use Rattle.lookup.proofs.word.Given as goal

abbrev pub invariant-loop-k : goal.invariant-loop-k
invariant-loop-k l = (l.k ≤ 8) × (turn 8 (number l.s l.at 8) 0 ≡ turn l.k (number l.s l.at l.k) l.value) × (l.value < 256 ^ (8 - l.k))
