-- `holds` meets its contract. Assumes nothing.
use Rattle.rules.specs.Sizes.{holds}
use mathlib.Core.Path.{refl}
use Rattle.settings.proofs.holds.Goals as goal

pub returns : goal.returns
unfolding holds
returns c =
    refl
