-- What the plain engine's offer means, and the two tests of the rules' `offered`. Assumes nothing.
use Rattle.std.specs.Prelude.{ℕ, Bool, true, false, not, ◌&&◌, eqb}
use Rattle.std.proofs.Math.Option.{Option, none, some}
use Rattle.rules.specs.Messages as messages
use Rattle.rules.specs.Words.{Statement, State}
use Rattle.rules.specs.Inputs as inputs
use Rattle.wire.specs.Meaning.{message_of}
use Rattle.wire.specs.declared.Message.TheVariants.{Stated}
use Rattle.std.specs.Prelude as code
use Rattle.std.specs.Prelude.{Some, None}
use Rattle.wire.specs.declared.Statement as wire

abbrev pub offer_of : code.Option wire.Statement → Option messages.Message
offer_of (Some x) = some (message_of (Stated x))
offer_of None = none

-- "is in a view, leads it, has a new-view of that view stored", and the name is fresh
abbrev pub may_offer : ℕ → State → Bool
may_offer b s = inputs.leads s && inputs.is_opened s && not (eqb b 0) && not (inputs.is_used b s)

-- the propose above a statement, if it can be extended
unfoldable pub extension : Statement → ℕ → State → Option messages.Message
extension x b s = elim (inputs.extendable x s) [ true ↦ some (inputs.above x b s) | false ↦ none ]
