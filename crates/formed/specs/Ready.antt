-- A lent store whose form, heading and statements are good, and what is left of the definition then. Assumes nothing.
use Rattle.std.specs.Prelude.{ℕ, ◌≤◌, ◌≡◌, Bool, true, ◌&&◌, List}
use Rattle.rules.specs.Limits.{most_stations}
use Rattle.rules.specs.Lists.{all, distinct}
use Rattle.rules.specs.Sizes.{Settings}
use Rattle.rules.specs.Words.{same_statement}
use Rattle.rules.specs.WellFormed.{tally_good, same_tally, tallies_there, blames_good, linked, few_opened}
use Rattle.settings.specs.Made.{size_from}
use Rattle.store.specs.Layout.{size_in, statement_table, tally_table, log_table}
use Rattle.store.specs.Decode.{statements, tallies, blames, names}
use Rattle.store.specs.declared.Station.{Station}
use Rattle.form.specs.Lent.{Counts}
use Rattle.repeats.specs.Repeats.{AllCertify}
use Rattle.linked.specs.Told.{Told}

-- the limits of the store, every table's count in range, statements that certify, and not too many stations
pub record Ready (b : List ℕ) (s : Station) : Type 0 where
  pub size : size_from s.settings.size ≡ size_in b
  pub statements : Counts statement_table b s.statements
  pub tallies : Counts tally_table b s.tallies
  pub log : Counts log_table b s.logged
  pub certify : AllCertify b s.statements
  pub stations : s.settings.n ≤ most_stations

-- the parts of the definition after the header and the single statements
unfoldable pub tables_good : Settings → ℕ → List ℕ → Bool
tables_good g now b =
    all (tally_good g now) (tallies b) && distinct same_tally (tallies b) && (all (tallies_there (tallies b)) (statements b) && distinct same_statement (statements b))
    && blames_good g (blames b) && linked (statements b) 0 0 (names b) && few_opened g.n (tallies b)

-- the exact answer, and what the log tells, where it is yes
pub record Telling (good : Bool) (b : List ℕ) (r : Bool) (t : List ℕ) : Type 0 where
  pub is : r ≡ good
  pub told : r ≡ true → Told b t
