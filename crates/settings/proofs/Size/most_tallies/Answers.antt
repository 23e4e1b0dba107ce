-- `most_tallies` meets its contract: one column or the other. Assumes nothing.
use mathlib.Core.Path.{ap, sym}
use Rattle.rules.specs.Limits.{most_tallies}
use Rattle.settings.specs.Made.{size_from}
use Rattle.settings.specs.declared.Size.{Size}
use Rattle.settings.proofs.Size.most_tallies.Goals as goal

pub returns-in-Small : goal.returns-in-Small
unfolding most_tallies
returns-in-Small c = sym (ap (λ (z : Size). most_tallies (size_from z)) c.in-Small.is)

pub returns-in-Large : goal.returns-in-Large
unfolding most_tallies
returns-in-Large c = sym (ap (λ (z : Size). most_tallies (size_from z)) c.in-Large.is)
