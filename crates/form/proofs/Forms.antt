-- The form of a store by its tables, as the header counts them. Assumes nothing.
use Prim.Native.Nat.{ℕ, ◌+◌, ◌-◌, ◌*◌, ◌≤◌}
use mathlib.Core.Path.{◌≡◌, refl, sym, ap, ◌∙◌}
use mathlib.Core.Bool.{Bool, true, false, not, ◌&&◌}
use mathlib.Core.List.{List}
use native.Mathlib.Omega.{arith}
use lib.Dec.{leb, eqb}
use borrow.Author.Tests.{not-true, not-false, leb-true, eq-eqb}
use Rattle.rules.specs.Limits.{most_statements, most_tallies, most_statements_large, most_tallies_large}
use Rattle.settings.specs.Made.{size_from}
use Rattle.rules.specs.Lists.{all, within}
use Rattle.laws.proofs.Bounds.{statements_most, tallies_most}
use Rattle.laws.proofs.Tests.{and_left, and_right}
use Rattle.fields.specs.Places.{number}
use Rattle.store.specs.Layout.{size_in, Table, statement_table, tally_table, log_table, count_of}
use Rattle.store.specs.Decode.{table_fits, kinds, has_form}
use Rattle.store.specs.declared.Station.{Station}
use Rattle.store.proofs.Loaded.{loaded_statements, loaded_tallies, loaded_logged}
use Rattle.form.specs.Lent.{Lent, Counts, fits}

-- a count in range is below the larger limits too
pub few_statements_lem : {b : List ℕ} {n : ℕ} → Counts statement_table b n → n ≤ most_statements_large
few_statements_lem {b} k = omega (arith, k.room, statements_most (size_in b))

pub few_tallies_lem : {b : List ℕ} {n : ℕ} → Counts tally_table b n → n ≤ most_tallies_large
few_tallies_lem {b} k = omega (arith, k.room, tallies_most (size_in b))

pub few_names_lem : {b : List ℕ} {n : ℕ} → Counts log_table b n → n ≤ most_statements_large
few_names_lem {b} k = omega (arith, k.room, statements_most (size_in b))

-- a table's count and unused records
abbrev pub used : Table → List ℕ → ℕ → Bool
used t b n = fits b (t.base (size_in b)) t.size (t.room (size_in b)) n

pub used_is : (t : Table) (b : List ℕ) (n : ℕ) → n ≡ count_of t b → used t b n ≡ table_fits (size_in b) t b
unfolding fits table_fits
used_is t b n e =
    let z = size_in b in
    ap (λ (k : ℕ). leb k (t.room z) && eqb (number b (t.base z + t.size * k) (t.size * t.room z - t.size * k)) 0) e

-- as the code tests it, with the limits of the store
used_by_lem : (t : Table) (b : List ℕ) (n : ℕ) {r : Bool} {base room : ℕ} → base ≡ t.base (size_in b) → room ≡ t.room (size_in b) → r ≡ fits b base t.size room n
    → r ≡ used t b n
used_by_lem t b n p q e = rw (← p, ← q) e

used_room : (t : Table) (b : List ℕ) (n : ℕ) → used t b n ≡ true → n ≤ t.room (size_in b)
unfolding fits
used_room t b n e = leb-true n (t.room (size_in b)) (and_left (leb n (t.room (size_in b))) _ e)

-- the tests of a store's three tables
pub record Tested (b : List ℕ) (s : Station) (x y z : Bool) : Type 0 where
  pub statements : x ≡ used statement_table b s.statements
  pub tallies : y ≡ used tally_table b s.tallies
  pub log : z ≡ used log_table b s.logged

module _ (b : List ℕ) (s : Station) (h : Lent b s) where
  -- the three tests, as the code makes them with the limits of the header's size
  pub tested_by : {x y z : Bool} {most few base top : ℕ} → most ≡ most_statements (size_from s.settings.size) → few ≡ most_tallies (size_from s.settings.size)
      → base ≡ tally_table.base (size_in b) → top ≡ log_table.base (size_in b)
      → x ≡ fits b (statement_table.base (size_in b)) statement_table.size most s.statements → y ≡ fits b base tally_table.size few s.tallies → z ≡ fits b top log_table.size most s.logged
      → Tested b s x y z
  tested_by m f t l x y z =
      let same = h.holds.size in
      record {
        statements = used_by_lem statement_table b s.statements refl (m ∙ ap most_statements same) x;
        tallies = used_by_lem tally_table b s.tallies t (f ∙ ap most_tallies same) y;
        log = used_by_lem log_table b s.logged l (m ∙ ap most_statements same) z;
      }

  abbrev xs : Bool
  xs = used statement_table b s.statements

  abbrev ts : Bool
  ts = used tally_table b s.tallies

  abbrev l : Bool
  l = used log_table b s.logged

  -- the form, by the counts of the header
  pub form_is : (xs && ts && l && all (within 1 2) (kinds b)) ≡ has_form b
  unfolding has_form
  form_is =
      rw (used_is statement_table b _ (loaded_statements s b h.holds), used_is tally_table b _ (loaded_tallies s b h.holds), used_is log_table b _ (loaded_logged s b h.holds), eq-eqb _ _ h.long)

  -- what the tables' tests give
  module _ (e : (xs && ts && l) ≡ true) where
    pub counts_statements : Counts statement_table b s.statements
    counts_statements =
        record { long = h.long; is = loaded_statements s b h.holds; room = used_room statement_table b _ (and_left xs ts (and_left (xs && ts) l e)) }

    pub counts_tallies : Counts tally_table b s.tallies
    counts_tallies =
        record { long = h.long; is = loaded_tallies s b h.holds; room = used_room tally_table b _ (and_right xs ts (and_left (xs && ts) l e)) }

    pub counts_log : Counts log_table b s.logged
    counts_log = record { long = h.long; is = loaded_logged s b h.holds; room = used_room log_table b _ (and_right (xs && ts) l e) }

  -- what the form gives
  pub form_tables : has_form b ≡ true → (xs && ts && l) ≡ true
  form_tables e = and_left (xs && ts && l) _ (form_is ∙ e)

  -- the same, as the code tests them
  module _ {x y z : Bool} (t : Tested b s x y z) where
    tests : (x && y && z) ≡ (xs && ts && l)
    tests = rw (t.statements, t.tallies, t.log)

    pub tests_fail : not (x && y && z) ≡ true → false ≡ has_form b
    tests_fail e = ap (◌&& all (within 1 2) (kinds b)) (sym (not-true (x && y && z) e) ∙ tests) ∙ form_is

    pub tests_hold : not (x && y && z) ≡ false → (xs && ts && l) ≡ true
    tests_hold e = sym tests ∙ not-false (x && y && z) e

    pub tests_then : not (x && y && z) ≡ false → all (within 1 2) (kinds b) ≡ has_form b
    tests_then e = ap (◌&& all (within 1 2) (kinds b)) (sym (tests_hold e)) ∙ form_is
