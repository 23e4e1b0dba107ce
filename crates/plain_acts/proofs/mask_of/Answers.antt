-- `plain_acts::mask_of` meets its contract. Assumes nothing.
use native.Mathlib.Omega.{arith}
use Rattle.plain_acts.proofs.Laws.{only_small}
use Rattle.plain_acts.proofs.mask_of.Goals as goal

pub overflow_cast-result : goal.overflow_cast-result
overflow_cast-result c =
    record { fits = omega (arith, c.only.ensures, only_small c.args.station c.requires) }
