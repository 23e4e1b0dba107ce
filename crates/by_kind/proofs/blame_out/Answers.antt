-- `blame_out` meets its contract: three fields. Assumes nothing.
use Rattle.rules.specs.Messages.{blame, tags_of, row_of, table, kind, values, width}
use Rattle.outgoing.proofs.Writing.{message_says}
use borrow.Author.Rules.{rules}
use Rattle.by_kind.proofs.blame_out.Goals as goal

pub short-requires : goal.short-requires
unfolding width
short-requires c = search rules

pub returns : goal.returns
unfolding tags_of row_of table kind values
returns c =
    let a = c.args in
    message_says (blame a.view a.author) c.short.ensures
