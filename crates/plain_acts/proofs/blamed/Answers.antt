-- `plain_acts::blamed` meets its contract. Assumes nothing.
use Rattle.plain_tables.proofs.Laws.{given}
use Rattle.plain_acts.proofs.Laws.{blamed_gives}
use Rattle.plain_acts.proofs.blamed.Goals as goal

pub returns : goal.returns
returns c =
    let a = c.args in
    given c.with_blames.ensures (blamed_gives a.e c.requires.0 a.view a.mask)
