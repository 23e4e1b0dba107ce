-- `display::show` meets its contract: the head is put, then the height, the name and the ticks left. Assumes nothing.
use native.Mathlib.Omega.{arith}
use Rattle.fields.specs.Names.{name_of}
use Rattle.fields.proofs.Names.{name_lt}
use Rattle.display.proofs.Bytes.{shown_says}
use Rattle.display.proofs.show.Goals as goal

pub returns : goal.returns
returns c =
    let a = c.args in
    shown_says a.out.now a.at a.height (name_of a.name) a.left (omega arith) (name_lt a.name (omega (arith, c.well_formed)) (omega (arith, c.well_formed)) (omega (arith, c.well_formed)) (omega (arith, c.well_formed))) (omega arith)
    c.put.ensures (rw c.from.ensures at c.put-2.ensures) c.put_name.ensures c.put-3.ensures
