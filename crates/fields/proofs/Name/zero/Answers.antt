-- `fields::Name::zero` meets its contract. Assumes nothing.
use mathlib.Core.Path.{refl}
use Rattle.fields.specs.Names.{name_of}
use Rattle.fields.proofs.Name.zero.Goals as goal

pub returns : goal.returns
unfolding name_of
returns c = refl
