-- `number_field` meets its contract: the head is put, then the value. Assumes nothing.
use mathlib.Core.Path.{refl}
use native.Mathlib.Omega.{arith}
use Rattle.outgoing.proofs.Writing.{number_says}
use Rattle.outgoing.proofs.number_field.Goals as goal

pub returns : goal.returns
returns c =
    let a = c.args in
    (number_says a.out.now a.at a.tag a.width a.value (omega arith) (omega arith) c.requires.2 c.put.ensures c.put-2.ensures, refl)
