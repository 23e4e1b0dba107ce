-- `plain_tables::Names::none` meets its contract. Assumes nothing.
use mathlib.Core.Path.{refl}
use native.Mathlib.Omega.{arith}
use Rattle.plain_words.specs.Places.{firsts}
use Rattle.plain_tables.specs.Meaning.{names}
use Rattle.plain_tables.proofs.Names.none.Goals as goal

pub returns : goal.returns
unfolding names firsts
returns c =
    record { within = record { long = refl; most = omega arith }; is = refl }
