-- What may be said: messages that are allowed and fit their fields, to stations that are there; blocks within the limits. Assumes nothing.
use Rattle.std.specs.Prelude.{◌^◌, ◌≤◌, ◌<◌, ◌≡◌, true, List, [], ◌∷◌}
use Rattle.rules.specs.Limits.{last_height}
use Rattle.rules.specs.Sizes.{Settings}
use Rattle.rules.specs.Messages.{Message, Fitting, allowed, Effect, to_all, to_one, committed}

-- a claim of each element
abbrev pub Each : {A : Type 0} → (A → Type 0) → List A → Type 0
Each P [] = Unit
Each P (x ∷ xs) = P x × Each P xs

pub record Sendable (g : Settings) (m : Message) : Type 0 where
  pub is_allowed : allowed g m ≡ true
  pub fits : Fitting m

abbrev pub Sayable : Settings → Effect → Type 0
Sayable g (to_all m) = Sendable g m
Sayable g (to_one i m) = (i < g.n) × Sendable g m
Sayable g (committed h b) = (h ≤ last_height) × (b < 256 ^ 32)
