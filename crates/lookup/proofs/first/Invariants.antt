-- `lookup::first` meets its contract: what is left to search answers as the whole does, and so does what is left behind the marks. Assumes nothing.
use Prim.Native.Nat.{◌-◌}
use mathlib.Core.Path.{◌≡◌}
use Rattle.fields.specs.Names.{name_of}
use Rattle.lookup.specs.Search.{first_of}
use Rattle.lookup.proofs.first.Given as goal

abbrev pub invariant-loop-name : goal.invariant-loop-name
invariant-loop-name l =
    first_of l.s l.base l.size l.from l.end l.key (name_of l.name) ≡ first_of l.s l.base l.size l.i l.end l.key (name_of l.name)

abbrev pub decreases-loop-name : goal.decreases-loop-name
decreases-loop-name l = l.end - l.i
