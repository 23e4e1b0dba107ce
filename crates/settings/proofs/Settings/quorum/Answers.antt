-- `settings::Settings::quorum` meets its contract. Assumes nothing.
use Rattle.rules.specs.Sizes.{quorum}
use lib.Dec.{ltb}
use Prim.Native.Nat.{◌/◌}
use mathlib.Core.Path.{ap}
use Rattle.settings.proofs.Settings.quorum.Goals as goal

pub returns : goal.returns
unfolding quorum
returns c = ap (ltb (c.args.self.n / 2)) c.count.ensures
