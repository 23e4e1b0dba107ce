-- `choose::status_choose` meets its contract: the number of what was decided. Assumes nothing.
use mathlib.Core.Path.{sym, ap, ◌∙◌}
use Rattle.choose.specs.Meaning.{number_of}
use Rattle.choose.proofs.status_choose.Goals as goal

pub returns-in-First : goal.returns-in-First
returns-in-First c = sym (ap number_of c.in-First.is) ∙ c.taken.ensures

pub returns-in-Second : goal.returns-in-Second
returns-in-Second c = sym (ap number_of c.in-Second.is) ∙ c.taken.ensures

pub returns-in-Neither : goal.returns-in-Neither
returns-in-Neither c = sym (ap number_of c.in-Neither.is) ∙ c.taken.ensures
