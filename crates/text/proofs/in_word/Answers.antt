-- `text::in_word` meets its contract. Assumes nothing.
use Rattle.text.specs.Words.{in_word}
use mathlib.Core.Bool.{Bool, not, ◌||◌}
use mathlib.Core.Path.{ap}
use lib.Dec.{eqb}
use Rattle.text.proofs.in_word.Goals as goal

pub returns : goal.returns
unfolding in_word
returns c = ap (λ (x : Bool). not (x || eqb c.args.b 35)) c.is_space.ensures
