-- `plain_entries::next_lock` meets its contract. Assumes nothing.
use mathlib.Core.Path.{◌∙◌}
use Rattle.plain_entries.proofs.Laws.{lock_is}
use Rattle.plain_entries.proofs.next_lock.Goals as goal

pub returns : goal.returns
returns c = c.highest.ensures ∙ lock_is c.args.e
