-- An offer, cut where the code cuts it: whether it may be made, and what it makes. Assumes nothing.
use Rattle.std.specs.Prelude.{ℕ, Bool, true, false, not, ◌&&◌, eqb}
use Rattle.std.proofs.Math.Option.{Option, none, some}
use Rattle.rules.specs.Messages.{Message}
use Rattle.rules.specs.Words.{message, State}
use Rattle.rules.specs.Inputs.{leads, is_opened, is_used, top, extendable, above}
use Rattle.wire.specs.Meaning.{statement_of}
use Rattle.std.specs.Prelude.{Option as Maybe, Some, None}
use Rattle.wire.specs.declared.Statement.{Statement}

-- the number that the paper gives to each case, 0 where the offer is taken, and the propose that it makes: "9 offer not to be taken"
pub record Answer : Type 0 where
  pub number : ℕ
  pub propose : Option Message

abbrev pub answer_of : Maybe Statement → Answer
answer_of (Some x) = record { number = 0; propose = some (message (statement_of x none)) }
answer_of None = record { number = 9; propose = none }

-- the propose of the answer, if any
abbrev pub offer_of : Maybe Statement → Option Message
offer_of r = (answer_of r).propose

-- the first test of rules' `offered`, and what follows it
unfoldable pub may_offer : ℕ → State → Bool
unfolding leads is_opened is_used
may_offer b s = leads s && is_opened s && not (eqb b 0) && not (is_used b s)

unfoldable pub extension : ℕ → State → Option Message
unfolding top extendable above
extension b s =
    elim (top s.view s.statements) [ none ↦ none | some x ↦ elim (extendable x s) [ true ↦ some (above x b s) | false ↦ none ] ]
