-- `linked::is_linked` meets its contract. Assumes nothing.
use mathlib.Core.Path.{◌≡◌}
use Rattle.rules.specs.WellFormed.{linked}
use Rattle.store.specs.Decode.{statements, names}
use Rattle.linked.proofs.Parts.{linked_from}
use Rattle.linked.proofs.Telling.{SoFar}
use Rattle.linked.proofs.is_linked.Given as goal

abbrev pub invariant-loop-k : goal.invariant-loop-k
invariant-loop-k l =
    (linked (statements l.store) 0 0 (names l.store) ≡ linked_from l.store l.count l.k) × SoFar l.store l.k l.told l.telling
