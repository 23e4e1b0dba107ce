-- `ending` meets its contract: two fields one after another. Assumes nothing.
use Rattle.rules.specs.Messages.{width}
use Rattle.outgoing.proofs.Writing.{first_field, no_fields}
use Rattle.outgoing.proofs.ending.Goals as goal

pub returns : goal.returns
unfolding width
returns c =
    first_field c.number_field-eight.ensures.0 (first_field c.number_field.ensures.0 no_fields)
