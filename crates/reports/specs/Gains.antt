-- The log that a tick leaves, by the places of its new names, and what is needed to write it. Assumes nothing.
use Rattle.std.specs.Prelude.{ℕ, ◌+◌, ◌-◌, ◌*◌, ◌≤◌, ◌≡◌, List, ◌++◌, length}
use Rattle.rules.specs.Limits.{most_statements, most_statements_large}
use Rattle.store.specs.Layout.{log_table, size_in, count_of}
use Rattle.store.specs.Decode.{rows, names, Form}
use Rattle.glance.specs.Tables.{name_in, Stored}

-- the log's names, then those of the statements whose places stand in the table up to a length
abbrev pub grown_log : List ℕ → List ℕ → ℕ → List ℕ
grown_log b t n = names b ++ rows (name_in b t) (count_of log_table b) (n - count_of log_table b)

-- the table has the places, and the out buffer has room from a place on
pub record Enough (b t : List ℕ) (n at room : ℕ) : Type 0 where
  pub form : Form b
  pub more : count_of log_table b ≤ n
  pub fits : n ≤ most_statements (size_in b)
  pub long : length t ≡ most_statements_large
  pub stored : Stored b t (count_of log_table b) n
  pub space : at + 39 * (n - count_of log_table b) ≤ room
