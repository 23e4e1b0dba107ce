-- `heading::settings_good` meets its contract. Assumes nothing.
use mathlib.Core.Path.{◌∙◌}
use Rattle.heading.proofs.Parts.{made_some}
use Rattle.heading.proofs.settings_good.Goals as goal

pub returns : goal.returns
returns c = c.is_some.ensures ∙ made_some c.args.settings _ c.new.ensures.0
