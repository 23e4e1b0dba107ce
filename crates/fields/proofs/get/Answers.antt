-- `fields::get` meets its contract: eight bytes are two fours. Assumes nothing.
use mathlib.Core.Path.{sym}
use native.Mathlib.Omega.{arith}
use Rattle.fields.proofs.Laws.{number_split}
use Rattle.fields.proofs.get.Goals as goal

pub returns-then-width-eq8 : goal.returns-then-width-eq8
returns-then-width-eq8 c =
    let high = c.by_bytes-high.ensures in
    let low = c.by_bytes-low.ensures in
    rw c.if-width-eq8.true (rw (high.0, low.0) (sym (number_split _ _ 4 4)), omega (arith, high.1, low.1))
