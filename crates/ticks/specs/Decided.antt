-- A station whose tick is to be decided. Assumes nothing.
use Rattle.std.specs.Prelude.{ℕ, ◌≤◌, ◌≡◌, true, List}
use Rattle.rules.specs.Limits.{last_clock, least_out}
use Rattle.rules.specs.Refusals.{running}
use Rattle.store.specs.Layout.{size_in}
use Rattle.store.specs.Decode.{state_of}
use Rattle.store.specs.Meaning.{Loads}
use Rattle.store.specs.declared.Station.{Station}
use Rattle.acts.specs.Works.{Formed}

-- a running station whose clock is not the last, and an out buffer for what it says
pub record Running (b : List ℕ) (s : Station) (room : ℕ) : Type 0 where
  pub formed : Formed b
  pub runs : running (state_of b) ≡ true
  pub loaded : Loads s b
  pub ahead : s.clock ≡ last_clock → ⊥
  pub space : least_out (size_in b) ≤ room
