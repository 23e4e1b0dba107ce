-- One step of the search for the highest certificate. Assumes nothing.
use Rattle.std.specs.Prelude.{ℕ, true, false, ◌&&◌, ltb}
use Rattle.rules.specs.Sizes.{Settings, quorum}
use Rattle.rules.specs.Words.{Certificate, higher}

-- one step of rules' `highest`
unfoldable pub chosen : Settings → ℕ → Certificate → Certificate → Certificate
unfolding quorum higher
chosen g v t best = elim (ltb t.view v && quorum g t.mask && higher t best) [ true ↦ t | false ↦ best ]
