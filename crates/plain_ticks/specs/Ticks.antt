-- A tick of a station held by value, by its parts. Assumes nothing.
use Rattle.std.specs.Prelude.{ℕ, ◌≤◌, ◌≡◌, true, List}
use Rattle.std.proofs.Math.Option.{none, some}
use Rattle.rules.specs.Words as words
use Rattle.rules.specs.Words.{State}
use Rattle.rules.specs.Inputs.{Work, ◌▸◌, logging, complain, lead, enter, ticked}
use Rattle.rules.specs.Refusals.{Outcome, stopping, if_room}
use Rattle.rules.specs.WellFormed.{linked}
use Rattle.plain_words.specs.Places.{Within}
use Rattle.plain_tables.specs.declared.Cause.{Cause}
use Rattle.plain_tables.specs.declared.Phase.TheVariants.{Stopped}
use Rattle.plain_tables.specs.declared.Names.{Names}
use Rattle.plain_tables.specs.declared.Engine.{Engine}
use Rattle.plain_tables.specs.Meaning.{names, room, state, phased}
use Rattle.plain_messages.specs.Whole.{Whole}
use Rattle.plain_turns.specs.declared.Turn.{Turn}

-- the station at another clock
abbrev pub clocked : ℕ → Engine → Engine
clocked c e =
    record { settings = e.settings; phase = e.phase; view = e.view; entry = e.entry; clock = c; lock = e.lock; statements = e.statements; tallies = e.tallies; blames = e.blames; log = e.log }

-- the station as it was, stopped
abbrev pub halting : ℕ → Cause → Engine → Turn
halting k why e = record { number = k; count = 0; engine = phased (Stopped why) e }

-- a log that a whole station may keep: it lost nothing, and each name is that of a stored propose
pub record Keepable (e : Engine) (log : Names) : Type 0 where
  pub whole : Whole e
  pub within : Within room log.items log.count
  pub grown : e.log.count ≤ log.count
  pub linked : linked (state e).statements 0 0 (names log) ≡ true

-- what a tick with this log does
unfoldable pub turning : List ℕ → State → Work
unfolding logging complain lead enter ◌▸◌
turning l s = logging l s ▸ complain ▸ lead ▸ enter

-- a tick of a station that runs, before the last clock: 7, then 6
unfoldable pub ticking : State → Outcome
unfolding ticked stopping if_room
ticking s = elim (ticked s) [ none ↦ stopping 7 words.split s | some w ↦ if_room s w ]
