-- `last_view` meets its contract: one column or the other. Assumes nothing.
use mathlib.Core.Path.{ap, sym}
use Rattle.rules.specs.Limits.{last_view}
use Rattle.settings.specs.Made.{size_from}
use Rattle.settings.specs.declared.Size.{Size}
use Rattle.settings.proofs.Size.last_view.Goals as goal

pub returns-in-Small : goal.returns-in-Small
unfolding last_view
returns-in-Small c = sym (ap (λ (z : Size). last_view (size_from z)) c.in-Small.is)

pub returns-in-Large : goal.returns-in-Large
unfolding last_view
returns-in-Large c = sym (ap (λ (z : Size). last_view (size_from z)) c.in-Large.is)
