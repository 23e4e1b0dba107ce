-- `propose_out` meets its contract: the first four fields, the link, the ending. Assumes nothing.
use Rattle.fields.specs.Names.{name_of}
use Rattle.rules.specs.Messages.{propose, tags_of, row_of, table, kind, values, width}
use Rattle.wire.proofs.Statements.{propose_said_lem}
use Rattle.outgoing.proofs.Writing.{first_field, fields_both, message_says}
use Rattle.by_kind.proofs.propose_out.Goals as goal

pub returns : goal.returns
unfolding tags_of row_of table kind values width
returns c =
    let x = c.args.x in
    rw (propose_said_lem x c.requires.0) (message_says (propose x.view x.height (name_of x.name) (name_of x.link) x.mask x.author) (fields_both c.block-five.ensures.0 (first_field c.name_field-seven.ensures.0 c.ending.ensures)))
