-- `glance::is_told` meets its contract: by the table's number at its height. Assumes nothing.
use Rattle.glance.proofs.Telling.{tells_read}
use Prim.Native.Nat.{ℕ, ◌-◌}
use mathlib.Core.Path.{ap}
use Rattle.glance.proofs.is_told.Goals as goal

pub returns : goal.returns
returns c =
    let args = c.args in tells_read args.told.now args.i (ap (λ (h : ℕ). h - 1) c.height_at-height.ensures) c.place_in.ensures
