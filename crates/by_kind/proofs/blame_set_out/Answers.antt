-- `blame_set_out` meets its contract: three fields. Assumes nothing.
use Rattle.rules.specs.Messages.{blame_set, tags_of, row_of, table, kind, values, width}
use Rattle.outgoing.proofs.Writing.{message_says}
use borrow.Author.Rules.{rules}
use Rattle.by_kind.proofs.blame_set_out.Goals as goal

pub short-requires : goal.short-requires
unfolding width
short-requires c = search rules

pub returns : goal.returns
unfolding tags_of row_of table kind values
returns c =
    let a = c.args in
    message_says (blame_set a.view a.mask) c.short.ensures
