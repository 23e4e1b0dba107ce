-- `vote_out` meets its contract: the first four fields, then the author. Assumes nothing.
use Rattle.fields.specs.Names.{name_of}
use Rattle.rules.specs.Messages.{vote, tags_of, row_of, table, kind, values, width}
use Rattle.outgoing.proofs.Writing.{first_field, no_fields, fields_both, message_says}
use Rattle.by_kind.proofs.vote_out.Goals as goal

pub returns : goal.returns
unfolding tags_of row_of table kind values width
returns c =
    let a = c.args in
    message_says (vote a.view a.height (name_of a.name) a.author) (fields_both c.block-eight.ensures.0 (first_field c.number_field.ensures.0 no_fields))
