-- `settings::Settings::leader` meets its contract. Assumes nothing.
use Rattle.rules.specs.Sizes.{leader}
use mathlib.Core.Path.{refl}
use Rattle.settings.proofs.Settings.leader.Goals as goal

pub returns : goal.returns
unfolding leader
returns c =
    refl
