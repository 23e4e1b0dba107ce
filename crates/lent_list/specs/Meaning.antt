-- What the code's answer on the slot of a place means, and that it is an input. Assumes nothing.
use Rattle.std.specs.Prelude.{ℕ, ◌+◌, true, List, [], ◌∷◌, ◌++◌, ◌≡◌, Option as Maybe, Some, None}
use Rattle.slots.specs.Slots.{is_input}
use Rattle.lent_list.specs.Lists.{Input, input_of, inputs_after}
use Rattle.lent_list.specs.declared.Held.{Held}

unfoldable pub held_of : Maybe Held → List Input
held_of None = []
held_of (Some h) = input_of h.kind h.input.now ∷ []

abbrev pub Within : Maybe Held → Type 0
Within None = Unit
Within (Some h) = is_input h.kind h.input.now ≡ true

-- the code's answer is what the slot of the place holds: that, and then what those behind it hold
pub record Stands (l : List ℕ) (p : ℕ) (r : Maybe Held) : Type 0 where
  pub is : inputs_after l p ≡ held_of r ++ inputs_after l (p + 1)
  pub within : Within r
