-- `name_field` meets its contract: the head is put, then the name. Assumes nothing.
use Rattle.fields.proofs.Names.{name_lt}
use Rattle.fields.specs.Names.{name_of}
use native.Mathlib.Omega.{arith}
use Rattle.outgoing.proofs.Writing.{number_says}
use Rattle.outgoing.proofs.name_field.Goals as goal

pub returns : goal.returns
returns c =
    let a = c.args in
    (number_says a.out.now a.at a.tag 32 (name_of a.name) (omega arith) (omega arith) (name_lt a.name (omega (arith, c.well_formed)) (omega (arith, c.well_formed)) (omega (arith, c.well_formed)) (omega (arith, c.well_formed))) c.put.ensures c.put_name.ensures, omega arith)
