-- The propose of a logged name, the chain of its height, and how far the lowest names are told. Assumes nothing.
use Rattle.std.specs.Prelude.{ℕ, zero, suc, ◌+◌, ◌-◌, ◌%◌, ◌<◌, ◌≤◌, ◌≡◌, Bool, true, false, ◌&&◌, ◌||◌, List, eqb, length}
use Rattle.std.proofs.Math.Option.{Option, none, some}
use Rattle.rules.specs.Limits.{most_statements_large}
use Rattle.rules.specs.Lists.{first}
use Rattle.rules.specs.Words as words
use Rattle.rules.specs.Inputs.{is_block}
use Rattle.rules.specs.WellFormed.{linked}
use Rattle.store.specs.Decode.{nth, statement_at, statements, name_at, names}
use Rattle.chains.specs.Chains.{chains, places}
use Rattle.linked.specs.Told.{name_below, Settles, Told}

-- a stored propose of this height, name and parent
unfoldable pub is_link : ℕ → ℕ → ℕ → words.Statement → Bool
unfolding is_block
is_link height name parent x = is_block height name x && eqb parent x.link

-- whether statement j is a propose of the name logged at place k, with any parent or with the name below
abbrev pub sought_at : List ℕ → ℕ → Bool → ℕ → Bool
sought_at b k any j = (any || eqb (statement_at b j).link (name_below b k)) && is_block (k + 1) (name_at b k) (statement_at b j)

-- statements hang by their height
abbrev pub height_chain : List ℕ → ℕ → ℕ
height_chain b k = (statement_at b k).height % chains

-- the first of n that passes a test, by how many are left from it on; 0 where none passes
abbrev pub place_left : ℕ → ℕ → Option ℕ
place_left n zero = none
place_left n (suc r) = some (n - suc r)

pub record Foremost (p : ℕ → Bool) (n r : ℕ) : Type 0 where
  pub within : r ≤ n
  pub is : first p (places 0 n) ≡ place_left n r

-- the first propose of a logged name above the name below; where it is told so, it is the first of the name with any parent
pub record Foremosts (b : List ℕ) (k n r : ℕ) (is_first : Bool) : Type 0 where
  pub above : Foremost (sought_at b k false) n r
  pub any : is_first ≡ true → Foremost (sought_at b k true) n r

-- one more than the place of the propose that settles a logged name; 0 tells nothing
abbrev pub Settling : List ℕ → ℕ → ℕ → Type 0
Settling b k r = (p : ℕ) → r ≡ suc p → Settles b k p

-- the names below a place are told, and no others
pub record Lowest (b : List ℕ) (reach : ℕ) (t : List ℕ) : Type 0 where
  pub long : length t ≡ most_statements_large
  pub settles : (k : ℕ) → Settling b k (nth t k)
  pub below : (k : ℕ) → k < reach → 0 < nth t k
  pub above : (k : ℕ) → reach ≤ k → nth t k ≡ 0

-- the answer whether the log is linked, and what is told of it
pub record Checked (b : List ℕ) (r : Bool) (t : List ℕ) : Type 0 where
  pub is : r ≡ linked (statements b) 0 0 (names b)
  pub told : Told b t
