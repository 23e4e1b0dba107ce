-- None of the examples of envelopes fails. Assumes nothing.
use Rattle.std.specs.Prelude.{◌≡◌, refl, []}
use Rattle.rules.specs.Messages.{read}
use Rattle.rules.specs.Script.{failing}
use Rattle.envelope.specs.Examples.{examples}

pub the_examples : failing 1 examples ≡ []
unfolding failing examples read
the_examples = refl
