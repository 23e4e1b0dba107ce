-- `status_out` meets its contract: five fields one after another. Assumes nothing.
use Rattle.fields.specs.Names.{name_of}
use Rattle.rules.specs.Messages.{status, tags_of, row_of, table, kind, values, width}
use Rattle.outgoing.proofs.Writing.{first_field, no_fields, message_says}
use Rattle.by_kind.proofs.status_out.Goals as goal

pub returns : goal.returns
unfolding tags_of row_of table kind values width
returns c =
    let a = c.args in
    message_says (status a.height (name_of a.name) a.cert a.mask)
    (first_field c.number_field-three.ensures.0 (first_field c.number_field-four.ensures.0 (first_field c.name_field-six.ensures.0 (first_field c.number_field-seven.ensures.0 (first_field c.number_field.ensures.0 no_fields)))))
