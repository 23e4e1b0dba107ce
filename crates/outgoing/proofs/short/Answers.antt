-- `short` meets its contract: three fields one after another. Assumes nothing.
use Rattle.rules.specs.Messages.{width}
use Rattle.outgoing.proofs.Writing.{first_field, last_field}
use Rattle.outgoing.proofs.short.Goals as goal

pub returns : goal.returns
unfolding width
returns c =
    first_field c.number_field-two.ensures.0 (first_field c.number_field-last.ensures.0 (last_field c.requires.3 c.number_field.ensures.0))
