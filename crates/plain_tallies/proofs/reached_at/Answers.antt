-- `plain_tallies::reached_at` meets its contract. Assumes nothing.
use mathlib.Core.Path.{ap, ◌∙◌}
use Rattle.plain_words.specs.Meaning.{noted_of}
use Rattle.rules.specs.Sizes.{quorum}
use Rattle.settings.specs.Made.{settings_of}
use Rattle.plain_tallies.specs.Meaning.{moment_of}
use Rattle.plain_tallies.proofs.Laws.{reached_some, reached_none}
use Rattle.plain_tallies.proofs.reached_at.Goals as goal

pub returns-in-Some : goal.returns-in-Some
returns-in-Some c =
    let a = c.args in
    reached_some (moment_of a.moment) a.mask a.reached _ c.in-Some.is

pub returns-in-None : goal.returns-in-None
returns-in-None c =
    let a = c.args in
    ap noted_of c.then_some.ensures
    ∙ reached_none (moment_of a.moment) a.mask a.reached c.in-None.is _ (c.quorum.ensures ∙ ap (quorum (settings_of a.moment.settings)) c.from.ensures)
