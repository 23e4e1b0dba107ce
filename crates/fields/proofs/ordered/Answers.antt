-- The order of names meets its contract. Assumes nothing.
use mathlib.Core.Path.{◌∙◌}
use native.Mathlib.Omega.{arith}
use Rattle.fields.proofs.Names.{words, order_name}
use Rattle.fields.proofs.ordered.Goals as goal

pub returns : goal.returns
returns c = c.cmp.ensures ∙ order_name c.args.name c.args.other (words _ (omega arith) (omega arith) (omega arith) (omega arith)) (words _ (omega arith) (omega arith) (omega arith) (omega arith))
