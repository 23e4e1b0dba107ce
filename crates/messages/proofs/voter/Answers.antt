-- `messages::voter` meets its contract: the mask fits 16 bits. Assumes nothing.
use native.Mathlib.Omega.{arith}
use Rattle.messages.proofs.Handling.{voter_small}
use Rattle.messages.proofs.voter.Goals as goal

pub overflow_cast-result : goal.overflow_cast-result
overflow_cast-result c =
    record { fits = omega (arith, c.only.ensures, voter_small c.args.author c.requires) }
