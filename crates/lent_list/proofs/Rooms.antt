-- What a station says of an input fits the least out buffer. Assumes nothing.
use Prim.Native.Nat.{◌≤◌}
use mathlib.Core.Path.{◌≡◌}
use mathlib.Core.Bool.{true}
use lib.ListN.{length}
use Rattle.rules.specs.Limits.{least_out}
use Rattle.rules.specs.Lists.{be}
use Rattle.rules.specs.Messages.{outgoing}
use Rattle.rules.specs.Words.{State}
use Rattle.rules.specs.WellFormed.{well_formed}
use Rattle.kept.proofs.Outs.{step_room, offer_room, tick_room}
use Rattle.lent_list.specs.Lists.{Input, tick, offer, message}
use Rattle.lent_list.specs.Plain.{answer_to}

pub answer_room : (s : State) → well_formed s ≡ true → (x : Input) → length (outgoing (answer_to x s).out) ≤ least_out s.settings.size
unfolding answer_to
answer_room s w tick = tick_room s w
answer_room s w (offer name) = offer_room s (be name)
answer_room s w (message bs) = step_room s bs
