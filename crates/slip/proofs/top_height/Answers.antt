-- `slip::top_height` meets its contract: the top is there or it isn't. Assumes nothing.
use mathlib.Core.Path.{sym, ap, ◌∙◌}
use Rattle.wire.specs.Meaning.{statement_of}
use Rattle.slip_entries.specs.Meaning.{entry_of}
use Rattle.slip.proofs.Judging.{top_here, top_unread}
use Rattle.slip.proofs.top_height.Goals as goal

pub returns-in-Some : goal.returns-in-Some
unfolding statement_of
returns-in-Some c =
    top_here _ (sym c.entry_at.ensures ∙ ap entry_of c.in-Some.is)

pub returns-in-None : goal.returns-in-None
returns-in-None c =
    top_unread _ (sym c.entry_at.ensures ∙ ap entry_of c.in-None.is)
