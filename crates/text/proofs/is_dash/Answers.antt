-- `text::is_dash` meets its contract. Assumes nothing.
use mathlib.Core.Path.{ap, ◌∙◌}
use lib.Dec.{eqb}
use lib.Pointwise.{pointwise}
use Rattle.text.proofs.Runs.{same_is}
use Rattle.text.specs.Words.{is_dash, bytes}
use Rattle.text.proofs.is_dash.Goals as goal

pub returns : goal.returns
unfolding is_dash bytes
returns c =
    c.eq.ensures ∙ ap (pointwise eqb c.args.word.now) c.as_slice.ensures ∙ same_is c.args.word.now (bytes "-")
