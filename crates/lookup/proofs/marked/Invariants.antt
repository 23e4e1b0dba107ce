-- `lookup::marked` meets its contract: what is left to search answers as the whole does. Assumes nothing.
use Prim.Native.Nat.{◌-◌}
use mathlib.Core.Path.{◌≡◌}
use Rattle.lookup.specs.Search.{seek, has_mark}
use Rattle.lookup.proofs.marked.Given as goal

abbrev pub invariant-loop-i : goal.invariant-loop-i
invariant-loop-i l =
    seek (has_mark l.s l.base l.size l.mark) l.from (l.end - l.from) ≡ seek (has_mark l.s l.base l.size l.mark) l.i (l.end - l.i)

abbrev pub decreases-loop-i : goal.decreases-loop-i
decreases-loop-i l = l.end - l.i
