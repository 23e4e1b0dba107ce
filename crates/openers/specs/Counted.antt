-- How many tallies have which opener. Assumes nothing.
use Rattle.std.specs.Prelude.{ℕ, ◌<◌, ◌≡◌, List, length, eqb}
use Rattle.rules.specs.Lists.{keep}
use Rattle.store.specs.Decode.{nth, rows, opener_at}

-- how often a number is among some
unfoldable pub times : ℕ → List ℕ → ℕ
unfolding keep
times k ms = length (keep (eqb k) ms)

-- of n tallies from tally i on, how many have which author's number
abbrev pub Counted : List ℕ → ℕ → ℕ → List ℕ → Type 0
Counted b i n counts = (k : ℕ) → 0 < k → k < 256 → nth counts k ≡ times k (rows (opener_at b) i n)
