-- What the plain engine means in the words of the rules. Assumes nothing.
use Rattle.std.specs.Prelude.{ℕ, ◌+◌, ◌≡◌, true, List}
use Rattle.fields.specs.Names.{name_of}
use Rattle.rules.specs.Limits.{most_statements_small}
use Rattle.rules.specs.Sizes.{good_settings}
use Rattle.rules.specs.Words as words
use Rattle.settings.specs.Made.{settings_of}
use Rattle.settings.specs.declared.Size.TheVariants.{Small}
use Rattle.plain_words.specs.Meaning.{certificate_of}
use Rattle.plain_words.specs.Places.{firsts, Within}
use Rattle.plain_statements.specs.Meaning as statement_room
use Rattle.plain_statements.specs.Meaning.{statements}
use Rattle.plain_statements.specs.declared.Statements.{Statements}
use Rattle.plain_tallies.specs.Meaning as tally_room
use Rattle.plain_tallies.specs.Meaning.{tallies}
use Rattle.plain_tallies.specs.declared.Tallies.{Tallies}
use Rattle.plain_tables.specs.declared.Names.{Names}
use Rattle.plain_tables.specs.declared.Cause.{Cause}
use Rattle.plain_tables.specs.declared.Cause.TheVariants.{Full, Split, Clock}
use Rattle.plain_tables.specs.declared.Phase.{Phase}
use Rattle.plain_tables.specs.declared.Phase.TheVariants.{InView, Waiting, Stopped}
use Rattle.plain_tables.specs.declared.Engine.{Engine}

-- the first so many names of the array
unfoldable pub names : Names → List ℕ
unfolding firsts name_of
names t = firsts name_of t.items t.count

-- as many as there are statements, and one more
abbrev pub room : ℕ
room = most_statements_small + 1

-- a list of names that holds these, in the room that it has
pub record Holds (t : Names) (bs : List ℕ) : Type 0 where
  pub within : Within room t.items t.count
  pub is : names t ≡ bs

abbrev pub cause_of : Cause → words.Cause
cause_of Full = words.full
cause_of Split = words.split
cause_of Clock = words.clock

abbrev pub phase_of : Phase → words.Phase
phase_of InView = words.in_view
phase_of (Waiting q) = words.waiting q
phase_of (Stopped c) = words.stopped (cause_of c)

-- the state of a station
unfoldable pub state : Engine → words.State
unfolding certificate_of statements tallies names
state e =
    record {
      settings = settings_of e.settings;
      phase = phase_of e.phase;
      view = e.view;
      entry = e.entry;
      clock = e.clock;
      lock = certificate_of e.lock;
      statements = statements e.statements;
      tallies = tallies e.tallies;
      blames = e.blames;
      log = names e.log;
    }

-- a station whose tables keep to their room, of a small group with good settings
pub record Sized (e : Engine) : Type 0 where
  pub statements : Within statement_room.room e.statements.items e.statements.count
  pub tallies : Within tally_room.room e.tallies.items e.tallies.count
  pub log : Within room e.log.items e.log.count
  pub small : e.settings.size ≡ Small
  pub good : good_settings (settings_of e.settings) ≡ true

-- a station in this state
pub record Gives (e : Engine) (s : words.State) : Type 0 where
  pub sized : Sized e
  pub is : state e ≡ s

-- ---- a station with one part changed

abbrev pub phased : Phase → Engine → Engine
phased p e =
    record { settings = e.settings; phase = p; view = e.view; entry = e.entry; clock = e.clock; lock = e.lock; statements = e.statements; tallies = e.tallies; blames = e.blames; log = e.log }

abbrev pub tabled : Statements → Tallies → Engine → Engine
tabled xs ts e =
    record { settings = e.settings; phase = e.phase; view = e.view; entry = e.entry; clock = e.clock; lock = e.lock; statements = xs; tallies = ts; blames = e.blames; log = e.log }

abbrev pub blaming : List ℕ → Engine → Engine
blaming ms e =
    record { settings = e.settings; phase = e.phase; view = e.view; entry = e.entry; clock = e.clock; lock = e.lock; statements = e.statements; tallies = e.tallies; blames = ms; log = e.log }
