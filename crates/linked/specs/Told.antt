-- What the check of a log tells of its lowest names: which stored proposes a chain goes through there. Assumes nothing.
use Rattle.std.specs.Prelude.{ℕ, zero, suc, ◌+◌, ◌<◌, ◌≡◌, List, length}
use Rattle.std.proofs.Math.Option.{some}
use Rattle.rules.specs.Limits.{most_statements_large}
use Rattle.rules.specs.Lists.{first}
use Rattle.rules.specs.Inputs.{is_block}
use Rattle.store.specs.Layout.{statement_table, log_table, count_of}
use Rattle.store.specs.Decode.{nth, statement_at, statements, name_at}

-- the logged name below the one at place k; genesis below the first
abbrev pub name_below : List ℕ → ℕ → ℕ
name_below b zero = 0
name_below b (suc k) = name_at b k

-- the first stored propose of the logged name at place k is statement p, and its parent is the name below
pub record Settles (b : List ℕ) (k p : ℕ) : Type 0 where
  pub logged : k < count_of log_table b
  pub stored : p < count_of statement_table b
  pub is_first : first (is_block (k + 1) (name_at b k)) (statements b) ≡ some (statement_at b p)
  pub parent : (statement_at b p).link ≡ name_below b k

-- a table that has, from the lowest name up as far as it goes, one more than the place of that propose; 0 tells nothing
pub record Told (b t : List ℕ) : Type 0 where
  pub long : length t ≡ most_statements_large
  pub settles : (k p : ℕ) → nth t k ≡ suc p → Settles b k p
  pub lowest : (j k : ℕ) → j < k → 0 < nth t k → 0 < nth t j
