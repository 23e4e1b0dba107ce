-- A run, evaluated: two voters at clock 3 are the first quorum of three stations, and a third at clock 4 moves no clock. And two
-- well-formed states that differ in the clock alone. Assumes nothing.
use mathlib.Core.Path.{◌≡◌, refl}
use Prim.Native.Nat.{ℕ}
use mathlib.Core.Bool.{true, false}
use mathlib.Core.List.{[], ◌∷◌}
use mathlib.Core.Option.{none, some}
use lib.ListN.{get_or}
use Rattle.rules.specs.Messages.{vote}
use Rattle.rules.specs.Words.{Certificate, reached_of, State, fresh}
use Rattle.rules.specs.Inputs.{with_tables, with_clock}
use Rattle.rules.specs.WellFormed.{well_formed}
use Rattle.rules.specs.Script.{Input, ticks, hears, group}
use Rattle.clocks.specs.Forget.{forget, Alike}
use Rattle.clocks.specs.Runs.{after, kept_at, has_quorum}

inputs : ℕ → Input
inputs k = get_or (ticks ∷ hears (vote 1 1 77 1) ∷ ticks ∷ ticks ∷ hears (vote 1 1 77 2) ∷ ticks ∷ hears (vote 1 1 77 0) ∷ []) k ticks

block : Certificate
block = record { view = 1; height = 1; name = 77; mask = 0 }

one_voter : (kept_at (after (fresh (group 0)) inputs) block 4 ≡ none) × (has_quorum (after (fresh (group 0)) inputs) block 4 ≡ false)
unfolding inputs block reached_of after fresh group has_quorum
one_voter = (refl, refl)

two_voters : kept_at (after (fresh (group 0)) inputs) block 5 ≡ some 3
unfolding inputs block reached_of after fresh group
two_voters = refl

three_voters : (kept_at (after (fresh (group 0)) inputs) block 7 ≡ some 3) × ((after (fresh (group 0)) inputs 7).clock ≡ 4)
unfolding inputs block reached_of after fresh group
three_voters = (refl, refl)

-- a station at clock 3 that keeps clock c of this quorum
keeping : ℕ → State
keeping c = with_tables [] (record { view = 1; height = 1; name = 77; mask = 3; opener = none; reached = some c } ∷ []) (with_clock 3 (fresh (group 0)))

-- both are well formed, and differ in the clock alone
alike_but_for_clocks : Alike (keeping 1) (keeping 3)
unfolding keeping forget with_tables
alike_but_for_clocks = refl

both_formed : (well_formed (keeping 1) ≡ true) × (well_formed (keeping 3) ≡ true)
unfolding keeping well_formed with_tables with_clock fresh group
both_formed = (refl, refl)
