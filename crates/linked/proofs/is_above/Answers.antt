-- `linked::is_above` meets its contract. Assumes nothing.
use Rattle.linked.proofs.Parts.{above_genesis, above_name}
use Rattle.linked.proofs.is_above.Goals as goal

pub returns-then-k-eq0 : goal.returns-then-k-eq0
returns-then-k-eq0 c =
    above_genesis _ _ _ c.if-k-eq0.true c.all_zero.ensures

pub returns : goal.returns
returns c =
    above_name _ _ _ c.if-k-eq0.false _ c.name_place.ensures.0 c.same.ensures
