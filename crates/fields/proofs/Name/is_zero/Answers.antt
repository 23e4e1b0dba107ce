-- `fields::Name::is_zero` meets its contract. Assumes nothing.
use Rattle.fields.proofs.Names.{zero_name}
use Rattle.fields.proofs.Name.is_zero.Goals as goal

pub returns : goal.returns
returns c = zero_name c.args.self c.struct_known-3-1.given
