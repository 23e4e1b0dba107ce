-- `messages::is_ahead` meets its contract: by the view of the message. Assumes nothing.
use mathlib.Core.Path.{ap}
use Prim.Native.Nat.{ℕ, ◌+◌}
use lib.Dec.{ltb}
use Rattle.messages.proofs.is_ahead.Goals as goal

pub returns : goal.returns
returns c = ap (λ (v : ℕ). ltb (c.args.view + 1) v) c.view_of.ensures
