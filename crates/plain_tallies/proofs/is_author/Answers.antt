-- `plain_tallies::is_author` meets its contract. Assumes nothing.
use mathlib.Core.Path.{◌∙◌}
use Rattle.plain_tallies.proofs.Laws.{author_is}
use Rattle.plain_tallies.proofs.is_author.Goals as goal

pub returns : goal.returns
returns c = c.eq.ensures ∙ author_is c.args.author c.args.opener
