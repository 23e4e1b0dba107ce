-- A well-formed state by its parts, numbered as in the rules' WellFormed. Assumes nothing.
use Rattle.std.specs.Prelude.{ℕ, ◌≤◌, ◌≡◌, Bool, true, List, length}
use Rattle.rules.specs.Limits.{most_statements, most_tallies}
use Rattle.rules.specs.Lists.{all, distinct}
use Rattle.rules.specs.Sizes.{Settings, good_settings}
use Rattle.rules.specs.Messages.{view_allowed}
use Rattle.rules.specs.Words.{Statement, same_statement, Tally, State}
use Rattle.rules.specs.WellFormed.{clocks_in_order, lock_good, statement_good, tally_good, same_tally, tallies_there, blames_good, linked, few_opened}

-- (6) to (9), (11) and (12): the two tables, and the log that rests on them; when a record is good, the settings and the clock say
pub record Tables (good : Statement → Bool) (g : Settings) (now : ℕ) (xs : List Statement) (ts : List Tally) (l : List ℕ) : Type 0 where
  -- (6)
  pub statements : all good xs ≡ true
  -- (7)
  pub statements_differ : distinct same_statement xs ≡ true
  -- (8)
  pub tallies : all (tally_good g now) ts ≡ true
  pub tallies_differ : distinct same_tally ts ≡ true
  -- (9)
  pub opened : all (tallies_there ts) xs ≡ true
  -- (11)
  pub log : linked xs 0 0 l ≡ true
  -- (12)
  pub few_opened : few_opened g.n ts ≡ true

-- all parts but (5): what every rule keeps on unbounded tables
pub record Formed (s : State) : Type 0 where
  -- (1)
  pub settings : good_settings s.settings ≡ true
  -- (2)
  pub view : view_allowed s.settings s.view ≡ true
  -- (3)
  pub clocks : clocks_in_order s ≡ true
  -- (4)
  pub lock : lock_good s ≡ true
  pub tables : Tables (statement_good s) s.settings s.clock s.statements s.tallies s.log
  -- (10)
  pub blames : blames_good s.settings s.blames ≡ true

pub record WellFormed (s : State) : Type 0 where
  pub formed : Formed s
  -- (5)
  pub few_statements : length s.statements ≤ most_statements s.settings.size
  pub few_tallies : length s.tallies ≤ most_tallies s.settings.size
