-- The changes of a state's tallies. Assumes nothing.
use Rattle.std.specs.Prelude.{ℕ, ◌+◌, ◌^◌, ◌<◌, ◌≡◌, List, [], ◌∷◌, ◌++◌, Some}
use Rattle.rules.specs.Words.{Certificate, Opener, Tally, Moment, grown, join, join_certificate, State, moment}
use Rattle.rules.specs.Inputs.{with_tables}
use Rattle.fields.specs.Places.{put}
use Rattle.store.specs.Layout.{tally_table, size_in, place_of}
use Rattle.store.specs.Decode.{tallies, Left}
use Rattle.records.specs.Changes.{change_at}
use Rattle.store.specs.Searches.{block_at}
use Rattle.tallies.specs.Values.{told, opener_number, reached_number}
use Rattle.tallies.specs.declared.Tally as code

-- tally i changes
unfoldable pub changing : ℕ → (Tally → Tally) → State → State
unfolding with_tables change_at
changing i f s = with_tables s.statements (change_at f i s.tallies) s

-- a mask joins tally i
unfoldable pub growing : Moment → ℕ → ℕ → State → State
unfolding changing grown
growing k i m s = changing i (λ t. grown k t m) s

-- the numbers of who opened a tally and of its clock fit their fields
pub record Fits (t : code.Tally) : Type 0 where
  pub opener : opener_number (told t.opener) < 256 ^ 1
  pub reached : reached_number (told t.reached) < 256 ^ 4

-- tally i has this mask and this clock's number, each within its field
pub record Voted (b : List ℕ) (i mask reached : ℕ) (b' : List ℕ) : Type 0 where
  pub is : b' ≡ put (put b (place_of tally_table (size_in b) i + 40) 2 mask) (place_of tally_table (size_in b) i + 43) 4 reached
  pub mask_fits : mask < 256 ^ 2
  pub reached_fits : reached < 256 ^ 4

-- a tally is put behind the others
unfoldable pub opening : Tally → State → State
unfolding with_tables
opening t s = with_tables s.statements (s.tallies ++ t ∷ []) s

-- a mask joins its tally, "opened if missing", by whom is said
unfoldable pub joining : Opener → Certificate → State → State
unfolding with_tables join
joining k t s = with_tables s.statements (join (moment k s) t s.tallies) s

-- that is done, and the tally stands at place i now
pub record Joined (k : Opener) (t : Certificate) (s : State) (b' : List ℕ) (i : ℕ) : Type 0 where
  pub left : Left b' (joining k t s)
  pub place : Some i ≡ block_at t (tallies b')

-- the same, but that genesis "has no tally" in view 0
unfoldable pub certifying : Opener → Certificate → State → State
unfolding with_tables join_certificate
certifying k t s = with_tables s.statements (join_certificate (moment k s) t s.tallies) s
