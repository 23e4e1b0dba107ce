-- `merging::name_in` meets its contract. Assumes nothing.
use Rattle.glance.proofs.Tables.{name_at_lem}
use Rattle.glance.proofs.Readers.{name_of_lem}
use mathlib.Core.Path.{◌∙◌}
use Rattle.merging.proofs.name_in.Goals as goal

pub returns : goal.returns
returns c =
    name_of_lem _ _ _ c.statement_at-x.ensures ∙ name_at_lem _ c.args.table.now c.args.k _ c.place_in.ensures
