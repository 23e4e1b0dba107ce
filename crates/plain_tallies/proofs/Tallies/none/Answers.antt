-- `plain_tallies::Tallies::none` meets its contract. Assumes nothing.
use mathlib.Core.Path.{refl}
use native.Mathlib.Omega.{arith}
use Rattle.plain_words.specs.Places.{firsts}
use Rattle.plain_tallies.specs.Meaning.{tallies}
use Rattle.plain_tallies.proofs.Tallies.none.Goals as goal

pub returns : goal.returns
unfolding tallies firsts
returns c =
    record { within = record { long = refl; most = omega arith }; is = refl }
