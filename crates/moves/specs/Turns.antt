-- A tick's work once its new log is known, and what is needed to do it. Assumes nothing.
use Rattle.std.specs.Prelude.{ℕ, ◌+◌, ◌≤◌, ◌<◌, ◌≡◌, Bool, true, false, List, length}
use Rattle.rules.specs.Limits.{last_clock, least_out, most_statements_large}
use Rattle.rules.specs.Words.{State}
use Rattle.rules.specs.Inputs.{Work, ◌▸◌, with_clock, logging, overdue, complain, leads_now, lead, enters_now, enter}
use Rattle.rules.specs.Refusals.{has_room}
use Rattle.store.specs.Layout.{size_in}
use Rattle.store.specs.Decode.{state_of}
use Rattle.commit.specs.Outcome.{Gained}
use Rattle.acts.specs.Works.{Formed}

-- "clock plus 1"
unfoldable pub later : State → State
unfolding with_clock
later s = with_clock (s.clock + 1) s

-- what follows the commits
unfoldable pub moving : State → Work
unfolding complain lead enter ◌▸◌
moving s = complain s ▸ lead ▸ enter

-- what comes before it: the new log at the new clock
unfoldable pub growing : List ℕ → State → Work
unfolding later logging
growing l s = logging l (later s)

-- the whole, as rules' `ticked` has it of a log
unfoldable pub turning : List ℕ → State → Work
unfolding later logging complain lead enter ◌▸◌
turning l s = logging l (later s) ▸ complain ▸ lead ▸ enter

-- nothing stands against the tick: there is a next clock, the new log is in the table, and there is room
pub record Clear (b t : List ℕ) (clock n room : ℕ) : Type 0 where
  pub formed : Formed b
  pub next : clock ≡ (state_of b).clock + 1
  pub last : (state_of b).clock < last_clock
  pub gained : Gained b t n
  pub long : length t ≡ most_statements_large
  pub fits : has_room (lead (later (state_of b))).now ≡ true
  pub space : least_out (size_in b) ≤ room

-- nothing but the log is due at the next clock
pub record Calm (b : List ℕ) : Type 0 where
  pub blameless : overdue (later (state_of b)) ≡ false
  pub led : leads_now (later (state_of b)) ≡ false
  pub stays : enters_now (later (state_of b)) ≡ false

abbrev pub Calmly : List ℕ → Bool → Type 0
Calmly b true = Calm b
Calmly b false = Unit {0}
