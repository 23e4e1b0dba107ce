-- `block` meets its contract: four fields one after another. Assumes nothing.
use Rattle.rules.specs.Messages.{width}
use Rattle.outgoing.proofs.Writing.{first_field, no_fields}
use native.Mathlib.Omega.{arith}
use Rattle.outgoing.proofs.block.Goals as goal

pub returns : goal.returns
unfolding width
returns c =
    ((first_field c.number_field-two.ensures.0 (first_field c.number_field-three.ensures.0 (first_field c.number_field-four.ensures.0 (first_field c.name_field.ensures.0 no_fields)))), omega arith)
