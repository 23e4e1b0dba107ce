-- `plain_tallies::certificate_of` meets its contract. Assumes nothing.
use mathlib.Core.Path.{refl}
use Rattle.plain_words.specs.Meaning.{certificate_of}
use Rattle.plain_tallies.specs.Meaning.{tally_of}
use Rattle.plain_tallies.proofs.certificate_of.Goals as goal

pub returns : goal.returns
unfolding certificate_of tally_of
returns c =
    refl
