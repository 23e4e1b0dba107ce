-- `plain_acts::blame_full` meets its contract. Assumes nothing.
use mathlib.Core.Path.{ap, ◌∙◌}
use Rattle.rules.specs.Sizes.{quorum}
use Rattle.rules.specs.Inputs as inputs
use Rattle.settings.specs.Made.{settings_of}
use Rattle.plain_tables.specs.Meaning.{state}
use Rattle.plain_acts.proofs.blame_full.Goals as goal

pub returns : goal.returns
unfolding inputs.blame_full state
returns c =
    let a = c.args in
    c.quorum.ensures ∙ ap (quorum (settings_of a.e.settings)) (c.from.ensures ∙ c.blames_of.ensures)
