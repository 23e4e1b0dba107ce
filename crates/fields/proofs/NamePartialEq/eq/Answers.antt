-- `==` of names meets its contract. Assumes nothing.
use native.Mathlib.Omega.{arith}
use Rattle.fields.proofs.Names.{words, same_name}
use Rattle.fields.proofs.NamePartialEq.eq.Goals as goal

pub returns : goal.returns
returns c = same_name c.args.self.now c.args.other.now (words _ (omega arith) (omega arith) (omega arith) (omega arith)) (words _ (omega arith) (omega arith) (omega arith) (omega arith))
