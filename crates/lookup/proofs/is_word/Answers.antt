-- `lookup::is_word` meets its contract: bytes turned about are the same where the bytes are. Assumes nothing.
use native.Mathlib.Omega.{arith}
use Rattle.fields.proofs.Laws.{number_lt}
use mathlib.Core.Path.{◌∙◌}
use Rattle.lookup.proofs.Turns.{turn_bytes, turn_same}
use Rattle.lookup.proofs.is_word.Goals as goal

pub returns : goal.returns
returns c =
    rw (c.swap_bytes.ensures ∙ turn_bytes c.args.value (omega (arith, c.well_formed.1.1.0)), c.word.ensures) (turn_same c.args.value _ (omega (arith, c.well_formed.1.1.0)) (number_lt _ c.type_inv.s c.args.at 8))
