-- None of the examples of the wall display fails. Assumes nothing.
use Rattle.std.specs.Prelude.{◌≡◌, refl, [], ◌++◌}
use Rattle.rules.specs.Script.{failing}
use Rattle.rules.specs.DisplayBench.{along, apart, written}

pub the_display : failing 1 (along ++ apart ++ written) ≡ []
unfolding failing along apart written
the_display = refl
