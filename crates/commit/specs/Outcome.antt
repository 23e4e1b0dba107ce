-- What the commit stage of a tick answers and leaves in the local table. Assumes nothing.
use Rattle.std.specs.Prelude.{Option as Maybe, None, Some, ℕ, ◌+◌, ◌-◌, ◌<◌, ◌≤◌, ◌≡◌, Bool, true, false, List, ◌++◌, get_or}
use Rattle.std.proofs.Math.Option.{Option, none, some}
use Rattle.rules.specs.Limits.{most_statements_large}
use Rattle.rules.specs.Inputs.{with_clock, due, commits}
use Rattle.store.specs.Layout.{log_table, count_of}
use Rattle.store.specs.Decode.{rows, names, state_of}
use Rattle.glance.specs.Tables.{name_in, Stored}
use Rattle.merging.specs.Joins.{Log}

-- a place of the table is that of statement i, and its chain goes down as far as the walk did
abbrev pub Settled : List ℕ → ℕ → ℕ → ℕ → ℕ → Bool → Type 0
Settled t height left own i true = (left < own) × (own ≤ height) × (get_or t (own - 1) 0 ≡ i)
Settled t height left own i false = Unit {0}

-- the log that a tick from this store leaves, as rules' `ticked` has it; none where a due commit differs from the log
unfoldable pub tick_log : List ℕ → Option (List ℕ)
unfolding with_clock due commits state_of
tick_log b = let now = with_clock ((state_of b).clock + 1) (state_of b) in commits now.statements (due now) now.log

abbrev pub Joined : Option (List ℕ) → List ℕ → List ℕ → Maybe ℕ → Type 0
Joined o b t (Some n) = Log o b t n
Joined o b t None = o ≡ none

-- the number that the paper gives to each case, 0 where the log has grown, and the log: its names, then those of the statements whose
-- places stand in the table from the log's length on. "7 a due commit differs from the log at a height"
pub record Answer : Type 0 where
  pub number : ℕ
  pub log : Option (List ℕ)

abbrev pub answer_of : List ℕ → List ℕ → Maybe ℕ → Answer
answer_of b t (Some n) = record { number = 0; log = some (names b ++ rows (name_in b t) (count_of log_table b) (n - count_of log_table b)) }
answer_of b t None = record { number = 7; log = none }

pub record Gained (b t : List ℕ) (n : ℕ) : Type 0 where
  pub is : tick_log b ≡ (answer_of b t (Some n)).log
  pub more : count_of log_table b ≤ n
  pub fits : n ≤ most_statements_large
  pub stored : Stored b t (count_of log_table b) n

abbrev pub Committed : List ℕ → List ℕ → Maybe ℕ → Type 0
Committed b t (Some n) = Gained b t n
Committed b t None = tick_log b ≡ (answer_of b t None).log
