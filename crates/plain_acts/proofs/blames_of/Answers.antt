-- `plain_acts::blames_of` meets its contract. Assumes nothing.
use native.Mathlib.Omega.{arith}
use mathlib.Core.Path.{refl}
use Rattle.rules.specs.Inputs as inputs
use Rattle.plain_tables.specs.Meaning.{state}
use Rattle.plain_acts.proofs.blames_of.Goals as goal

pub returns : goal.returns
unfolding inputs.blames_of state
returns c =
    refl
