-- The state that a store's bytes hold, and the bytes of a state: each is the other's inverse. Assumes nothing.
use Rattle.std.specs.Prelude.{ℕ, zero, suc, ◌+◌, ◌-◌, ◌*◌, ◌≡◌, Bool, true, false, ◌&&◌, List, [], ◌∷◌, ◌++◌, length, get_or, replicate, drop, leb, eqb}
use Rattle.std.proofs.Math.Option.{Option, none, some}
use Rattle.rules.specs.Limits.{Size, small, last_view}
use Rattle.rules.specs.Lists.{unbe, all, within}
use Rattle.rules.specs.Words.{Statement, Certificate, Tally, Phase, in_view, waiting, stopped, full, split, clock, State}
use Rattle.rules.specs.WellFormed.{well_formed}
use Rattle.fields.specs.Places.{number, Bytes}
use Rattle.fields.specs.Records.{Format, fields}
use Rattle.store.specs.Layout.{header_format, statement_format, tally_format, mask_format, name_format, Table, statement_table, tally_table, blame_base, log_table, store_length, size_in, count_of, place_of, unused}
use Rattle.tallies.specs.Values.{vote_of, vote_number, opener_of, opener_number, reached_from, reached_number}

abbrev pub nth : List ℕ → ℕ → ℕ
nth vs i = get_or vs i 0

-- ---- each number is one value's, and each value one number's

-- 0 in a view; 1, 2, 3 stopped: full, split, clock; from 4 on waiting, with the quit clock
abbrev pub phase_of : ℕ → Phase
phase_of zero = in_view
phase_of (suc zero) = stopped full
phase_of (suc (suc zero)) = stopped split
phase_of (suc (suc (suc zero))) = stopped clock
phase_of (suc (suc (suc (suc q)))) = waiting q

abbrev pub phase_number : Phase → ℕ
phase_number in_view = 0
phase_number (stopped full) = 1
phase_number (stopped split) = 2
phase_number (stopped clock) = 3
phase_number (waiting q) = suc (suc (suc (suc q)))

-- the kind as on the wire: 1 new-view, 2 propose
abbrev pub kind_number : Bool → ℕ
kind_number true = 1
kind_number false = 2

-- ---- records

abbrev pub statement_from : List ℕ → Statement
statement_from vs =
    record {
      is_new_view = eqb (nth vs 3) 1;
      view = nth vs 0;
      height = nth vs 1;
      name = nth vs 2;
      link = nth vs 6;
      mask = nth vs 5;
      author = nth vs 4;
      voted = vote_of (nth vs 7);
    }

abbrev pub statement_values : Statement → List ℕ
statement_values x =
    x.view ∷ x.height ∷ x.name ∷ kind_number x.is_new_view ∷ x.author ∷ x.mask ∷ x.link ∷ vote_number x.voted ∷ []

abbrev pub certificate_from : List ℕ → Certificate
certificate_from vs = record { view = nth vs 0; height = nth vs 1; name = nth vs 2; mask = nth vs 3 }

abbrev pub certificate_values : Certificate → List ℕ
certificate_values t = t.view ∷ t.height ∷ t.name ∷ t.mask ∷ []

abbrev pub tally_from : List ℕ → Tally
tally_from vs = record { view = nth vs 0; height = nth vs 1; name = nth vs 2; mask = nth vs 3; opener = opener_of (nth vs 4); reached = reached_from (nth vs 5) }

abbrev pub tally_values : Tally → List ℕ
tally_values t = t.view ∷ t.height ∷ t.name ∷ t.mask ∷ opener_number t.opener ∷ reached_number t.reached ∷ []

-- record i of each table
unfoldable pub statement_at : List ℕ → ℕ → Statement
statement_at b i = statement_from (fields b (statement_table.base small + statement_table.size * i) statement_format)

unfoldable pub tally_for : Size → List ℕ → ℕ → Tally
tally_for z b i = tally_from (fields b (place_of tally_table z i) tally_format)

unfoldable pub blame_for : Size → List ℕ → ℕ → ℕ
blame_for z b i = number b (blame_base z + 2 * i) 2

unfoldable pub name_for : Size → List ℕ → ℕ → ℕ
name_for z b i = number b (place_of log_table z i) 32

abbrev pub tally_at : List ℕ → ℕ → Tally
tally_at b i = tally_for (size_in b) b i

abbrev pub blame_at : List ℕ → ℕ → ℕ
blame_at b i = blame_for (size_in b) b i

abbrev pub name_at : List ℕ → ℕ → ℕ
name_at b i = name_for (size_in b) b i

unfoldable pub kind_at : List ℕ → ℕ → ℕ
kind_at b i = number b (place_of statement_table small i + 40) 1

unfoldable pub vote_at : List ℕ → ℕ → ℕ
vote_at b i = number b (place_of statement_table small i + 76) 4

-- the number of who opened tally i
unfoldable pub opener_for : Size → List ℕ → ℕ → ℕ
opener_for z b i = number b (place_of tally_table z i + 42) 1

abbrev pub opener_at : List ℕ → ℕ → ℕ
opener_at b i = opener_for (size_in b) b i

-- the number of the clock at which tally i first had a quorum
unfoldable pub since_for : Size → List ℕ → ℕ → ℕ
since_for z b i = number b (place_of tally_table z i + 43) 4

abbrev pub since_at : List ℕ → ℕ → ℕ
since_at b i = since_for (size_in b) b i

-- n records from record i on
unfoldable pub rows : {A : Type 0} → (ℕ → A) → ℕ → ℕ → List A
rows f i zero = []
rows f i (suc n) = f i ∷ rows f (suc i) n

-- ---- the state of the bytes

unfoldable pub statements : List ℕ → List Statement
unfolding rows statement_at
statements b = rows (statement_at b) 0 (count_of statement_table b)

unfoldable pub tallies : List ℕ → List Tally
unfolding rows tally_for
tallies b = rows (tally_at b) 0 (count_of tally_table b)

-- nobody blames view 0
unfoldable pub blames_for : Size → List ℕ → List ℕ
unfolding rows blame_for last_view
blames_for z b = 0 ∷ rows (blame_for z b) 0 (last_view z)

abbrev pub blames : List ℕ → List ℕ
blames b = blames_for (size_in b) b

unfoldable pub names : List ℕ → List ℕ
unfolding rows name_for
names b = rows (name_at b) 0 (count_of log_table b)

unfoldable pub state_from : Size → List ℕ → List Statement → List Tally → List ℕ → List ℕ → State
state_from z h xs ts ms l =
    record {
      settings = record { n = nth h 1; D = nth h 2; own = nth h 3; size = z };
      phase = phase_of (nth h 0);
      view = nth h 4;
      entry = nth h 5;
      clock = nth h 6;
      lock = record { view = nth h 7; height = nth h 8; name = nth h 9; mask = nth h 10 };
      statements = xs;
      tallies = ts;
      blames = ms;
      log = l;
    }

unfoldable pub state_of : List ℕ → State
unfolding state_from statements tallies blames_for names size_in
state_of b = state_from (size_in b) (fields b 0 header_format) (statements b) (tallies b) (blames b) (names b)

-- a table's count is in range, and its unused records are zero
unfoldable pub table_fits : Size → Table → List ℕ → Bool
table_fits z t b = leb (count_of t b) (t.room z) && eqb (unused z t b) 0

unfoldable pub kinds : List ℕ → List ℕ
unfolding rows kind_at
kinds b = rows (kind_at b) 0 (count_of statement_table b)

-- the form alone: the exact length, counts in range, unused records zero, kinds 1 and 2
unfoldable pub has_form : List ℕ → Bool
unfolding table_fits all within kinds size_in
has_form b =
    let z = size_in b in
    eqb (length b) (store_length z) && table_fits z statement_table b && table_fits z tally_table b && table_fits z log_table b && all (within 1 2) (kinds b)

-- "store not well formed": none
unfoldable pub decode : List ℕ → Option State
unfolding has_form well_formed state_of
decode b = elim (has_form b && well_formed (state_of b)) [ true ↦ some (state_of b) | false ↦ none ]

-- ---- the bytes of a state

-- a record's bytes
unfoldable pub bytes_of : Format → List ℕ → List ℕ
unfolding unbe
bytes_of [] vs = []
bytes_of (f ∷ fs) [] = []
bytes_of (f ∷ fs) (v ∷ vs) = unbe f.1 v ++ bytes_of fs vs

unfoldable pub flat : {A : Type 0} → (A → List ℕ) → List A → List ℕ
flat e [] = []
flat e (x ∷ xs) = e x ++ flat e xs

-- a table's records, then zeros
unfoldable pub table_of : {A : Type 0} → Size → Table → (A → List ℕ) → List A → List ℕ
unfolding flat
table_of z t e xs = flat e xs ++ replicate (t.size * t.room z - t.size * length xs) 0

unfoldable pub header_values : State → List ℕ
header_values s =
    phase_number s.phase ∷ s.settings.n ∷ s.settings.D ∷ s.settings.own ∷ s.view ∷ s.entry ∷ s.clock
    ∷ s.lock.view ∷ s.lock.height ∷ s.lock.name ∷ s.lock.mask
    ∷ length s.statements ∷ length s.tallies ∷ length s.log ∷ []

-- a store was left that has the form, and holds a state
pub record Form (b : List ℕ) : Type 0 where
  pub bytes : Bytes b
  pub form : has_form b ≡ true

pub record Left (b : List ℕ) (s : State) : Type 0 where
  pub form : Form b
  pub is : state_of b ≡ s

unfoldable pub encode : State → List ℕ
unfolding bytes_of header_values table_of flat
encode s =
    bytes_of header_format (header_values s)
    ++ table_of s.settings.size statement_table (λ x. bytes_of statement_format (statement_values x)) s.statements
    ++ table_of s.settings.size tally_table (λ t. bytes_of tally_format (tally_values t)) s.tallies
    ++ flat (λ m. bytes_of mask_format (m ∷ [])) (drop 1 s.blames)
    ++ table_of s.settings.size log_table (λ b. bytes_of name_format (b ∷ [])) s.log
