-- `plain_names::write_name` meets its contract. Assumes nothing.
use native.Mathlib.Omega.{arith}
use mathlib.Core.Path.{◌∙◌}
use Rattle.fields.proofs.Names.{name_lt}
use Rattle.fields.specs.Names.{name_of}
use Rattle.outgoing.proofs.Writing.{put_wrote}
use Rattle.plain_names.proofs.write_name.Goals as goal

pub returns : goal.returns
returns c = let a = c.args in c.put_name.ensures ∙ put_wrote a.out.now a.at 32 (name_of a.name) (name_lt a.name (omega (arith, c.well_formed)) (omega (arith, c.well_formed)) (omega (arith, c.well_formed)) (omega (arith, c.well_formed)))
