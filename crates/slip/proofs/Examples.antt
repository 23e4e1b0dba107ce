-- None of the examples of slips fails. Assumes nothing.
use Rattle.std.specs.Prelude.{◌≡◌, refl, [], ◌++◌}
use Rattle.rules.specs.Script.{failing}
use Rattle.slip.specs.Examples.{examples, not_a_commit}

pub the_examples : failing 1 (examples ++ not_a_commit) ≡ []
unfolding failing examples not_a_commit
the_examples = refl
