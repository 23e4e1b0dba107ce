-- The whole definition by its parts, and what the answer says of decoding. Assumes nothing.
use Prim.Native.Nat.{ℕ, ◌≤◌}
use mathlib.Core.Path.{◌≡◌, refl, sym, ap, ◌∙◌}
use mathlib.Core.Bool.{Bool, true, false, not, ◌&&◌, and-true, and-false, false≢true}
use mathlib.Core.List.{List}
use mathlib.Core.Option.{none, some}
use native.Mathlib.Omega.{arith}
use lib.ListN.{length}
use borrow.Author.Tests.{le-leb, not-true, not-false}
use Rattle.rules.specs.Limits.{Size, most_stations, most_statements, most_tallies}
use Rattle.rules.specs.Lists.{all, distinct}
use Rattle.rules.specs.Sizes.{Settings, good_settings}
use Rattle.rules.specs.Messages.{view_allowed}
use Rattle.rules.specs.Words.{Statement, same_statement, Tally}
use Rattle.rules.specs.WellFormed.{clocks_in_order, lock_good, statement_good, tally_good, same_tally, tallies_there, blames_good, linked, few_opened, well_formed}
use Rattle.laws.proofs.Tests.{and_left, and_right}
use Rattle.laws.proofs.Allowed.{sizes}
use Rattle.fields.specs.Records.{fields}
use Rattle.settings.specs.Made.{size_from, settings_of}
use Rattle.store.specs.Layout.{size_in, header_format, store_length, statement_table, count_of}
use Rattle.store.specs.Decode.{statement_at, tally_at, statements, tallies, blames, names, state_from, state_of, has_form, decode}
use Rattle.store.specs.Meaning.{Loads, header_of}
use Rattle.store.specs.declared.Station.{Station}
use Rattle.store.proofs.Rows.{rows_length, rows_all}
use Rattle.form.specs.Lent.{Lent, Counts}
use Rattle.heading.specs.Alone.{alone}
use Rattle.repeats.specs.Repeats.{AllCertify}
use Rattle.formed.specs.Ready.{Ready, tables_good, Telling}
use Rattle.form.proofs.Forms.{form_tables, counts_statements, counts_tallies, counts_log}
use Rattle.stated.proofs.Parts.{good_certifies}

abbrev pub header_good : Station → Bool
header_good s = good_settings (alone s).settings && view_allowed (alone s).settings (alone s).view && clocks_in_order (alone s) && lock_good (alone s)

-- a header looks at no table, a table at no more of the header than settings and clock
parts_are : (s : Station) (xs : List Statement) (ts : List Tally) (ms l : List ℕ) → length xs ≤ most_statements (size_from s.settings.size)
    → length ts ≤ most_tallies (size_from s.settings.size)
    → (header_good s && all (statement_good (alone s)) xs && distinct same_statement xs && all (tally_good (settings_of s.settings) s.clock) ts && distinct same_tally ts
    && all (tallies_there ts) xs && blames_good (settings_of s.settings) ms && linked xs 0 0 l && few_opened s.settings.n ts)
    ≡ well_formed (state_from (size_from s.settings.size) (header_of s) xs ts ms l)
unfolding well_formed clocks_in_order lock_good statement_good state_from header_of
parts_are s xs ts ms l p q = simp (le-leb _ _ p, le-leb _ _ q, and-true)

-- the state of the bytes, by its header and tables
state_is : (b : List ℕ) → state_of b ≡ state_from (size_in b) (fields b 0 header_format) (statements b) (tallies b) (blames b) (names b)
unfolding state_of
state_is b = refl

-- the parts in the order of the code and in that of the rules
grouped : (x d a b c e f g : Bool) → (x && (a && b && (c && d) && e && f && g)) ≡ (x && d && a && b && c && e && f && g)
grouped false d a b c e f g = refl
grouped true true a b c e f g = ap (λ (z : Bool). a && b && z && e && f && g) (and-true c)
grouped true false a b c e f g = ap (λ (z : Bool). a && b && z && e && f && g) (and-false c) ∙ ap (λ (z : Bool). z && e && f && g) (and-false (a && b))

-- where the answer is no, nothing is told
pub untold : {good : Bool} {b t : List ℕ} → false ≡ good → Telling good b false t
untold e = record { is = e; told = λ q. absurd (false≢true q) }

-- where a tally is not good or two are of one block nothing else of the tables counts
module _ (g : Settings) (now : ℕ) (b : List ℕ) (r : Bool) (e : r ≡ (all (tally_good g now) (tallies b) && distinct same_tally (tallies b))) where
  pub tables_not : not r ≡ true → false ≡ tables_good g now b
  unfolding tables_good
  tables_not n = rw (sym e ∙ not-true r n)

  -- where they are good and apart, the others do
  pub tables_then : not r ≡ false → (all (tallies_there (tallies b)) (statements b) && distinct same_statement (statements b) && blames_good g (blames b) && linked (statements b) 0 0 (names b) && few_opened g.n (tallies b)) ≡ tables_good g now b
  unfolding tables_good
  tables_then n = rw (sym e ∙ not-false r n)

-- without the form nothing else counts
pub formless : (b : List ℕ) (r : Bool) → r ≡ has_form b → not r ≡ true → false ≡ (has_form b && well_formed (state_of b))
formless b r e n = rw (sym e ∙ not-true r n)

-- a store of the exact length, its station, and that it has the form, as the code tests it
module _ (b : List ℕ) (s : Station) (long : length b ≡ store_length (size_in b)) (holds : Loads s b) (answer : Bool) (is : answer ≡ has_form b) (held : not answer ≡ false) where
  lent : Lent b s
  lent = record { long = long; holds = holds }

  form : has_form b ≡ true
  form = sym is ∙ not-false answer held

  pub counted : Counts statement_table b s.statements
  counted = counts_statements b s lent (form_tables b s lent form)

  few_statements_lem : length (statements b) ≤ most_statements (size_from s.settings.size)
  unfolding statements
  few_statements_lem = rw (rows_length (statement_at b) 0, ← counted.is, holds.size) counted.room

  few_tallies_lem : length (tallies b) ≤ most_tallies (size_from s.settings.size)
  unfolding tallies
  few_tallies_lem =
      let k = counts_tallies b s lent (form_tables b s lent form) in
      rw (rows_length (tally_at b) 0, ← k.is, holds.size) k.room

  abbrev good : Bool
  good = all (statement_good (alone s)) (statements b)

  abbrev rest : Bool
  rest = tables_good (settings_of s.settings) s.clock b

  -- with the form, the rest of the definition is all there is
  formed_is : (header_good s && good && rest) ≡ (has_form b && well_formed (state_of b))
  unfolding tables_good
  formed_is =
      let g = settings_of s.settings in
      let xs = statements b in
      let ts = tallies b in
      let whole = well_formed (state_of b) in
      grouped (header_good s && good) (distinct same_statement xs) (all (tally_good g s.clock) ts) (distinct same_tally ts) (all (tallies_there ts) xs) (blames_good g (blames b)) (linked xs 0 0 (names b)) (few_opened g.n ts)
      ∙ parts_are s xs ts (blames b) (names b) few_statements_lem few_tallies_lem
      ∙ ap (λ (z : Size). well_formed (state_from z (header_of s) xs ts (blames b) (names b))) holds.size
      ∙ ap (λ (vs : List ℕ). well_formed (state_from (size_in b) vs xs ts (blames b) (names b))) holds.header
      ∙ ap well_formed (sym (state_is b))
      ∙ ap (◌&& whole) (sym form)

  -- good settings are of no more stations than may be
  few_stations : header_good s ≡ true → s.settings.n ≤ most_stations
  few_stations e =
      let set = good_settings (alone s).settings in
      let view = view_allowed (alone s).settings (alone s).view in
      (sizes (settings_of s.settings) (unfold state_from header_of in and_left set view (and_left (set && view) (clocks_in_order (alone s)) (and_left (set && view && clocks_in_order (alone s)) (lock_good (alone s)) e)))).most

  -- statements that are good certify
  certify : good ≡ true → AllCertify b s.statements
  unfolding statements
  certify e i l = good_certifies (alone s) (statement_at b i) (rows_all (statement_good (alone s)) (statement_at b) 0 (count_of statement_table b) e i (omega arith) (omega (arith, counted.is)))

  -- as the code tests them
  module _ (x y : Bool) (p : x ≡ header_good s) (q : y ≡ good) where
    tests : (x && y) ≡ (header_good s && good)
    tests = rw (p, q)

    pub ready : not (x && y) ≡ false → Ready b s
    ready e =
        let k = form_tables b s lent form in
        record {
          size = holds.size;
          statements = counted;
          tallies = counts_tallies b s lent k;
          log = counts_log b s lent k;
          certify = certify (and_right (header_good s) good (sym tests ∙ not-false (x && y) e));
          stations = few_stations (and_left (header_good s) good (sym tests ∙ not-false (x && y) e));
        }

    pub formed_not : not (x && y) ≡ true → false ≡ (has_form b && well_formed (state_of b))
    formed_not e = ap (◌&& rest) (sym (not-true (x && y) e) ∙ tests) ∙ formed_is

    pub formed_then : not (x && y) ≡ false → rest ≡ (has_form b && well_formed (state_of b))
    formed_then e = ap (◌&& rest) (sym (not-false (x && y) e) ∙ tests) ∙ formed_is

-- ---- for callers

-- a store that is well formed decodes to its state, any other to none
pub formed_decoded : (b : List ℕ) (r : Bool) → r ≡ (has_form b && well_formed (state_of b)) → r ≡ true → decode b ≡ some (state_of b)
unfolding decode
formed_decoded b r e t = rw (sym e ∙ t, decode)

pub unformed_decoded : (b : List ℕ) (r : Bool) → r ≡ (has_form b && well_formed (state_of b)) → r ≡ false → decode b ≡ none
unfolding decode
unformed_decoded b r e t = rw (sym e ∙ t, decode)
