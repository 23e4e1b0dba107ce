-- Places of statements in local tables. Assumes nothing.
use Rattle.std.specs.Prelude.{ℕ, ◌<◌, ◌≤◌, ◌≡◌, List, get_or}
use Rattle.rules.specs.Words.{Statement}
use Rattle.store.specs.Layout.{statement_table, log_table, count_of}
use Rattle.store.specs.Decode.{statement_at, name_at}

-- the statement whose place stands in a table, and its name
unfoldable pub statement_in : List ℕ → List ℕ → ℕ → Statement
statement_in b t k = statement_at b (get_or t k 0)

unfoldable pub name_in : List ℕ → List ℕ → ℕ → ℕ
unfolding statement_in
name_in b t k = (statement_in b t k).name

-- the places from one to another are those of stored statements
abbrev pub Stored : List ℕ → List ℕ → ℕ → ℕ → Type 0
Stored b t from to = (k : ℕ) → from ≤ k → k < to → get_or t k 0 < count_of statement_table b

-- the lowest names of a table's chain are the log's
pub record Known (b t : List ℕ) (known : ℕ) : Type 0 where
  pub logged : known ≤ count_of log_table b
  pub names : (k : ℕ) → k < known → name_in b t k ≡ name_at b k
