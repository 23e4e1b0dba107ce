-- `plain_acts::moment_of` meets its contract. Assumes nothing.
use mathlib.Core.Path.{refl}
use Rattle.plain_tables.specs.Meaning.{state}
use Rattle.plain_acts.proofs.moment_of.Goals as goal

pub returns : goal.returns
unfolding state
returns c =
    refl
