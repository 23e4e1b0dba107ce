-- `plain_statements::Statements::none` meets its contract. Assumes nothing.
use mathlib.Core.Path.{refl}
use native.Mathlib.Omega.{arith}
use Rattle.plain_words.specs.Places.{firsts}
use Rattle.plain_statements.specs.Meaning.{statements}
use Rattle.plain_statements.proofs.Statements.none.Goals as goal

pub returns : goal.returns
unfolding statements firsts
returns c =
    record { within = record { long = refl; most = omega arith }; is = refl }
