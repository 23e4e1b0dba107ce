-- What the code's settings mean in the words of the rules. Assumes nothing.
use Rattle.std.specs.Prelude.{ℕ, Bool, true, false, Option as Maybe, Some, None}
use Rattle.std.proofs.Math.Option.{Option, none, some}
use Rattle.rules.specs.Limits as limits
use Rattle.rules.specs.Limits.{small, large}
use Rattle.rules.specs.Sizes as sizes
use Rattle.rules.specs.Sizes.{good_settings}
use Rattle.rules.specs.Refusals.{fresh_number}
use Rattle.settings.specs.declared.Size.{Size}
use Rattle.settings.specs.declared.Size.TheVariants.{Small, Large}
use Rattle.settings.specs.declared.Settings.{Settings}

abbrev pub size_from : Size → limits.Size
size_from Small = small
size_from Large = large

abbrev pub settings_of : Settings → sizes.Settings
settings_of g = record { n = g.n; D = g.delay; own = g.own; size = size_from g.size }

abbrev pub pick : Bool → Maybe Settings → Maybe Settings → Maybe Settings
pick true a b = a
pick false a b = b

-- the number that the paper gives to each case, 0 where the settings are good, and the settings: "10 bad settings for a fresh store"
pub record Answer : Type 0 where
  pub number : ℕ
  pub settings : Option sizes.Settings

abbrev pub answer_of : Maybe Settings → Answer
answer_of (Some g) = record { number = 0; settings = some (settings_of g) }
answer_of None = record { number = 10; settings = none }

-- the settings of the answer, if any
abbrev pub made_of : Maybe Settings → Option sizes.Settings
made_of r = (answer_of r).settings

-- good settings, or refused
unfoldable pub made : ℕ → ℕ → ℕ → Size → Maybe Settings
unfolding good_settings
made n delay own z =
    pick (good_settings (record { n = n; D = delay; own = own; size = size_from z })) (Some (record { n = n; delay = delay; own = own; size = z })) None

-- what the rules answer to the settings of a fresh store, and the settings where they are good
unfoldable pub answered : ℕ → ℕ → ℕ → Size → Answer
unfolding good_settings fresh_number
answered n delay own z =
    let g : sizes.Settings = record { n = n; D = delay; own = own; size = size_from z } in
    record { number = fresh_number g; settings = elim (good_settings g) [ true ↦ some g | false ↦ none ] }
