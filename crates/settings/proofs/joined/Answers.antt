-- `joined` meets its contract. Assumes nothing.
use mathlib.Core.Path.{refl}
use Rattle.rules.specs.Sizes.{joined}
use Rattle.settings.proofs.joined.Goals as goal

pub returns : goal.returns
unfolding joined
returns c = refl
