-- `most_statements` meets its contract: one column or the other. Assumes nothing.
use mathlib.Core.Path.{ap, sym}
use Rattle.rules.specs.Limits.{most_statements}
use Rattle.settings.specs.Made.{size_from}
use Rattle.settings.specs.declared.Size.{Size}
use Rattle.settings.proofs.Size.most_statements.Goals as goal

pub returns-in-Small : goal.returns-in-Small
unfolding most_statements
returns-in-Small c = sym (ap (λ (z : Size). most_statements (size_from z)) c.in-Small.is)

pub returns-in-Large : goal.returns-in-Large
unfolding most_statements
returns-in-Large c = sym (ap (λ (z : Size). most_statements (size_from z)) c.in-Large.is)
