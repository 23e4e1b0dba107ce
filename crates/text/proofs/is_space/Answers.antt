-- `text::is_space` meets its contract. Assumes nothing.
use Rattle.text.specs.Words.{is_space}
use mathlib.Core.Path.{refl}
use Rattle.text.proofs.is_space.Goals as goal

pub returns : goal.returns
unfolding is_space
returns c = refl
