-- `slots::is_kept` meets its contract, number by number. Assumes nothing.
use Rattle.slots.specs.Slots.{is_kept}
use Rattle.std.proofs.lemmas.Grind.{common_steps}
use native.Mathlib.Omega.{arith}
use Rattle.slots.proofs.is_kept.Goals as goal

pub returns : goal.returns
unfolding is_kept
returns c = grind (arith, common_steps)
