-- `lookup::ahead` meets its contract: what is left of the turn answers as the whole does. Assumes nothing.
use Prim.Native.Nat.{◌+◌, ◌-◌, ◌≤◌}
use mathlib.Core.Path.{◌≡◌}
use Rattle.lookup.specs.Search.{seek, has_mark}
use Rattle.lookup.proofs.ahead.Given as goal

abbrev pub invariant-loop-i : goal.invariant-loop-i
invariant-loop-i l =
    seek (has_mark l.s l.base l.size l.mark) l.from 16 ≡ seek (has_mark l.s l.base l.size l.mark) l.i (l.from + 16 - l.i)
