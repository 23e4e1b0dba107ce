-- `clauses::link_below` meets its contract: a view as a name is its own number. Assumes nothing.
use lib.Dec.{ltb}
use mathlib.Core.Path.{◌∙◌, ap}
use Rattle.fields.proofs.Names.{is_before}
use Rattle.fields.specs.Names.{name_of}
use native.Mathlib.Nat.{zero-add}
use Rattle.clauses.proofs.link_below.Goals as goal

pub returns : goal.returns
unfolding name_of
returns c =
    c.lt.ensures ∙ is_before _ _ ∙ ap (ltb (name_of c.args.link)) (zero-add c.args.view)
