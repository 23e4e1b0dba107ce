-- `plain::plain_tick` meets its contract. Assumes nothing.
use mathlib.Core.Path.{refl}
use Rattle.lent_list.specs.Lists.{kind_of, bytes_of, input_of}
use Rattle.lent_list.specs.Plain.{plain_tick}
use native.Mathlib.Omega.{arith}
use Rattle.plain.proofs.plain_tick.Goals as goal

pub answered-requires : goal.answered-requires
unfolding kind_of bytes_of input_of
answered-requires c = record { kind = refl; bytes = refl; named = λ e. absurd (omega (arith, e)) }

pub returns : goal.returns
unfolding input_of plain_tick
returns c = c.answered.ensures
