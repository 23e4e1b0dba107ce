-- A chain and the log of a tick as places of statements in local tables, and how they join. Assumes nothing.
use Rattle.std.specs.Prelude.{Option as Maybe, None, Some, ℕ, ◌<◌, ◌≤◌, ◌≡◌, Bool, true, false, List, length, get_or, ltb}
use Rattle.std.proofs.Math.Option.{Option, none, some}
use Rattle.rules.specs.Limits.{most_statements_large}
use Rattle.rules.specs.Inputs.{merge}
use Rattle.store.specs.Layout.{log_table, count_of}
use Rattle.store.specs.Decode.{rows, name_at, Form}
use Rattle.glance.specs.Tables.{name_in, Stored}

-- the log of a tick: the logged names, and above them those of a table
unfoldable pub name_so_far : List ℕ → List ℕ → ℕ → ℕ
unfolding name_in
name_so_far b t k = elim (ltb k (count_of log_table b)) [ true ↦ name_at b k | false ↦ name_in b t k ]

-- the places from one to another are those of another table
pub record Copied (from to left : List ℕ) (start end : ℕ) : Type 0 where
  pub below : (k : ℕ) → k < start → get_or left k 0 ≡ get_or to k 0
  pub within : (k : ℕ) → start ≤ k → k < end → get_or left k 0 ≡ get_or from k 0

-- a whole chain of a height, and the log so far
pub record WholeChain (b gained chain : List ℕ) (logged len height : ℕ) : Type 0 where
  pub form : Form b
  pub old : logged ≡ count_of log_table b
  pub more : logged ≤ len
  pub fits : len ≤ most_statements_large
  pub long : length gained ≡ most_statements_large
  pub gains : Stored b gained logged len
  pub high : height ≤ most_statements_large
  pub whole : length chain ≡ most_statements_large
  pub blocks : Stored b chain 0 height

-- whether the two logs have the same names up to a height
abbrev pub Agree : (ℕ → ℕ) → (ℕ → ℕ) → ℕ → Bool → Type 0
Agree f g n true = (k : ℕ) → k < n → f k ≡ g k
Agree f g n false = (k : ℕ) × (k < n) × (f k ≡ g k → ⊥)

-- a log of so many names, the new ones in the table
pub record Log (o : Option (List ℕ)) (b t : List ℕ) (n : ℕ) : Type 0 where
  pub is : o ≡ some (rows (name_so_far b t) 0 n)
  pub more : count_of log_table b ≤ n
  pub fits : n ≤ most_statements_large
  pub stored : Stored b t (count_of log_table b) n

-- the log has a chain's names
pub record Has (b t chain : List ℕ) (height n : ℕ) : Type 0 where
  pub up : height ≤ n
  pub same : (k : ℕ) → k < height → name_in b chain k ≡ name_so_far b t k

abbrev pub JoinedWith : List ℕ → List ℕ → List ℕ → List ℕ → ℕ → ℕ → Maybe ℕ → Type 0
JoinedWith b t t' chain height len (Some n) = Log (merge (rows (name_in b chain) 0 height) (rows (name_so_far b t) 0 len)) b t' n × Has b t' chain height n
JoinedWith b t t' chain height len None = merge (rows (name_in b chain) 0 height) (rows (name_so_far b t) 0 len) ≡ none
