-- `new_view_out` meets its contract: the first four fields, the link's last word, the ending. Assumes nothing.
use Rattle.fields.specs.Names.{name_of}
use Rattle.rules.specs.Messages.{new_view, tags_of, row_of, table, kind, values, width}
use Rattle.wire.proofs.Statements.{link_word, new_view_said_lem}
use Rattle.outgoing.proofs.Writing.{first_field, fields_both, message_says}
use lib.Dec.{lit<}
use Prim.Native.Nat.{◌^◌}
use native.Mathlib.Omega.{arith}
use Rattle.by_kind.proofs.new_view_out.Goals as goal

pub number_field-seven-requires : goal.number_field-seven-requires
number_field-seven-requires c =
    omega (arith, link_word c.args.x.link (256 ^ 4) (lit< tt) c.requires.1)

pub returns : goal.returns
unfolding tags_of row_of table kind values width
returns c =
    let x = c.args.x in
    let f = rw (link_word x.link (256 ^ 4) (lit< tt) c.requires.1) at c.number_field-seven.ensures.0 in
    rw (new_view_said_lem x c.requires.0) (message_says (new_view x.view x.height (name_of x.name) (name_of x.link) x.mask x.author) (fields_both c.block-six.ensures.0 (first_field f c.ending.ensures)))
