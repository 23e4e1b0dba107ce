-- `find_tally` meets its contract: all tallies in use are searched. Assumes nothing.
use native.Mathlib.Nat.{sub-zero}
use native.Mathlib.Omega.{arith}
use Rattle.store.specs.Decode.{tallies}
use Rattle.store.proofs.Forms.{form_long, form_tallies}
use Rattle.store.proofs.find_tally.Goals as goal

pub get_count-count-requires : goal.get_count-count-requires
get_count-count-requires c = omega (arith, form_long _ c.requires)

pub seek_tally-requires : goal.seek_tally-requires
seek_tally-requires c =
    (form_long _ c.requires, omega (arith, form_tallies _ c.requires, c.get_count-count.ensures.0))

pub returns : goal.returns
unfolding tallies
returns c = rw (c.seek_tally.ensures, c.get_count-count.ensures.0, sub-zero)
