-- None of the examples of the bench and of the corners fails. Assumes nothing.
use Rattle.std.specs.Prelude.{◌≡◌, refl, [], ◌++◌}
use Rattle.rules.specs.Script.{failing}
use Rattle.rules.specs.Corners.{corners}
use Rattle.rules.specs.Bench.{bench, slips}

pub the_bench : failing 1 (bench ++ slips ++ corners) ≡ []
unfolding failing bench slips corners
the_bench = refl
