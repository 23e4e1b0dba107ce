-- `plain_leads::own_new_view` meets its contract. Assumes nothing.
use native.Mathlib.Omega.{arith}
use Rattle.plain_acts.proofs.Laws.{own_small}
use Rattle.plain_leads.proofs.Laws.{made_is}
use Rattle.plain_leads.proofs.own_new_view.Goals as goal

pub overflow_cast-result : goal.overflow_cast-result
overflow_cast-result c = record { fits = omega (arith, own_small c.args.e c.requires) }

pub returns : goal.returns
returns c = rw c.from.ensures (made_is c.args.e c.highest-best.result c.highest-best.ensures)
