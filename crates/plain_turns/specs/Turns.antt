-- What a call on a station held by value answers, writes and leaves. Assumes nothing.
use Rattle.std.specs.Prelude.{ℕ, ◌≡◌, Bool, true, false, List, length, take}
use Rattle.rules.specs.Messages.{outgoing}
use Rattle.rules.specs.Refusals.{Outcome}
use Rattle.plain_tables.specs.declared.Cause.TheVariants.{Full}
use Rattle.plain_tables.specs.declared.Phase.TheVariants.{Stopped}
use Rattle.plain_tables.specs.declared.Engine.{Engine}
use Rattle.plain_tables.specs.Meaning.{Gives, phased}
use Rattle.plain_acts.specs.declared.Work.{Work}
use Rattle.plain_messages.specs.Whole.{Whole}
use Rattle.plain_turns.specs.declared.Turn.{Turn}

-- a refusal that changes nothing
abbrev pub refusing : ℕ → Engine → Turn
refusing k e = record { number = k; count = 0; engine = e }

-- the rule's work, or the station as it was, stopped
abbrev pub chosen : Bool → Engine → Work → Turn
chosen true e w = record { number = 0; count = w.at; engine = w.engine }
chosen false e w = record { number = 6; count = 0; engine = phased (Stopped Full) e }

-- the answer is this outcome: its number, the station that is left, and the bytes of what was said at the start of the buffer
pub record Turned (x : Outcome) (r : Turn) (left : List ℕ) : Type 0 where
  pub number : r.number ≡ x.number
  pub next : Gives r.engine x.next
  pub count : r.count ≡ length (outgoing x.out)
  pub out : take r.count left ≡ outgoing x.out

-- and the station is whole again
pub record Answered (x : Outcome) (r : Turn) (left : List ℕ) : Type 0 where
  pub turned : Turned x r left
  pub whole : Whole r.engine
