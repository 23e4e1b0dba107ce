-- What is seen of the statements before any chain is walked. Assumes nothing.
use Rattle.std.specs.Prelude.{ℕ, suc, ◌+◌, ◌-◌, ◌*◌, ◌/◌, ◌%◌, ◌^◌, ◌<◌, ◌≤◌, ◌≡◌, Bool, true, false, List, length, get_or}
use Rattle.rules.specs.Limits.{last_view_large}
use Rattle.rules.specs.Lists.{keep}
use Rattle.store.specs.Layout.{statement_table, count_of}
use Rattle.store.specs.Decode.{statement_at, statements, Form}
use Rattle.store.specs.declared.Station.{Station}
use Rattle.linked.specs.Told.{Told}
use Rattle.glance.specs.Votes.{is_voted, is_ripe}
use Rattle.glance.specs.declared.Glance.{Glance}

-- the check told that statement i is the first propose of the logged name at place k
abbrev pub Tells : List ℕ → ℕ → ℕ → Bool → Type 0
Tells t k i true = get_or t k 0 ≡ suc i
Tells t k i false = Unit {0}

-- before anything is looked at: the store, what the check told of it, and how many statements it has
pub record Begun (b told : List ℕ) (count wait : ℕ) : Type 0 where
  pub form : Form b
  pub tells : Told b told
  pub all : count ≡ count_of statement_table b
  pub heights : (i : ℕ) → i < count → (statement_at b i).is_new_view ≡ false → 1 ≤ (statement_at b i).height
  pub short : wait < 2 ^ 32

-- a view that is allowed in some column
abbrev pub IsView : ℕ → Type 0
IsView v = (1 ≤ v) × (v ≤ last_view_large)

-- the lower half of a view, its bytes turned
abbrev pub turned : ℕ → ℕ
turned v = v / 256 % 256 + 256 * (v % 256)

-- a store of which every statement has such a view, and one more
pub record Views (b : List ℕ) (view : ℕ) : Type 0 where
  pub form : Form b
  pub stated : (i : ℕ) → i < count_of statement_table b → IsView (statement_at b i).view
  pub own : IsView view

-- the statements from one place to another are of other views
abbrev pub OthersFrom : List ℕ → ℕ → ℕ → ℕ → Type 0
OthersFrom b view from to = (j : ℕ) → from ≤ j → j < to → (statement_at b j).view ≡ view → ⊥

abbrev pub FourOthers : List ℕ → ℕ → ℕ → Bool → Type 0
FourOthers b view i true = OthersFrom b view i (i + 4)
FourOthers b view i false = Unit {0}

-- the check told of each due statement from one place to another
abbrev pub ToldFrom : List ℕ → List ℕ → ℕ → ℕ → ℕ → ℕ → ℕ → Type 0
ToldFrom b t view wait now from to =
    (j : ℕ) → from ≤ j → j < to → is_ripe view wait now (statement_at b j) ≡ true → get_or t ((statement_at b j).height - 1) 0 ≡ suc j

abbrev pub ToldBelow : List ℕ → List ℕ → ℕ → ℕ → ℕ → ℕ → Type 0
ToldBelow b t view wait now settled = ToldFrom b t view wait now 0 settled

-- so many proposes of the view were voted for, and the check told of each due statement below a place
pub record Looked (b t : List ℕ) (view wait now count votes settled : ℕ) : Type 0 where
  pub counted : votes ≡ length (keep (is_voted view) (statements b))
  pub below : ToldBelow b t view wait now settled

-- the same by the numbers of a loaded station, at the next clock
abbrev pub ToldIn : List ℕ → List ℕ → Station → ℕ → Type 0
ToldIn b t s settled = ToldBelow b t s.view (2 * s.settings.delay) (s.clock + 1) settled

abbrev pub Seen : List ℕ → List ℕ → Station → Glance → Type 0
Seen b t s r = Looked b t s.view (2 * s.settings.delay) (s.clock + 1) s.statements r.votes r.settled
