-- `glance::place_in` meets its contract. Assumes nothing.
use native.Mathlib.Omega.{arith}
use Rattle.glance.proofs.place_in.Goals as goal

pub overflow_cast-result : goal.overflow_cast-result
overflow_cast-result c =
    omega (arith, c.type_inv.table c.args.k)
