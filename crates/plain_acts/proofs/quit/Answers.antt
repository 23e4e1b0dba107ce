-- `plain_acts::quit` meets its contract. Assumes nothing.
use mathlib.Core.List.{[]}
use Rattle.plain_tables.proofs.Laws.{given}
use Rattle.plain_acts.proofs.Laws.{quit_gives}
use Rattle.plain_acts.proofs.quit.Goals as goal

pub returns : goal.returns
returns c =
    given c.with_phase.ensures (quit_gives c.args.e c.requires [])
