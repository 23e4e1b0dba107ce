-- What comes of a statement, by what was found before the act. Assumes nothing.
use Rattle.std.specs.Prelude.{ℕ, Bool, true, false, eqb, Option as Maybe}
use Rattle.std.proofs.Math.Option.{Option, none, some}
use Rattle.rules.specs.Lists.{any}
use Rattle.rules.specs.Words.{Statement, same_statement, own_block, certificate, same_block, State}
use Rattle.rules.specs.Inputs.{stored}
use Rattle.rules.specs.Refusals.{has_room}
use Rattle.store.specs.Decode.{tallies}
use Rattle.store.specs.Searches.{first_from, block_at}
use Rattle.storing.specs.Records.{certified_at}
use Rattle.plans.specs.declared.Plan.{Plan}
use Rattle.plans.specs.declared.Plan.TheVariants.{Repeat, New, Full}

-- what comes of a new statement, by whether there is room
abbrev pub new_plan : Bool → Maybe ℕ → Maybe ℕ → Plan
new_plan true p q = New p q
new_plan false p q = Full

-- what comes of a statement
unfoldable pub planned : Statement → State → Plan
unfolding any same_statement has_room stored certified_at certificate first_from same_block own_block
planned x s =
    elim (any (same_statement x) s.statements) [
      | true ↦ Repeat
      | false ↦ new_plan (has_room (stored x s)) (certified_at (certificate x) s.tallies) (block_at (own_block x 0) s.tallies)
    ]

-- the number that the paper gives to each case, 0 where there is room, and the places of a new statement's two tallies:
-- "6 no record free for what this input must add"
pub record Answer : Type 0 where
  pub number : ℕ
  pub places : Option (Maybe ℕ × Maybe ℕ)

abbrev pub answer_of : Plan → Answer
answer_of Repeat = record { number = 0; places = none }
answer_of (New p q) = record { number = 0; places = some (p, q) }
answer_of Full = record { number = 6; places = none }

-- whether there is room for it
unfoldable pub fits : Plan → Bool
fits p = eqb (answer_of p).number 0
