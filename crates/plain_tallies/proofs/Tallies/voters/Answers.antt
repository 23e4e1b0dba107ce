-- `plain_tallies::Tallies::voters` meets its contract. Assumes nothing.
use mathlib.Core.Path.{sym, ◌∙◌}
use Rattle.plain_words.specs.Meaning.{certificate_of}
use Rattle.plain_tallies.specs.Meaning.{tally_of}
use Rattle.plain_tallies.proofs.Laws.{voters_here, voters_none}
use Rattle.plain_tallies.proofs.Tallies.voters.Goals as goal

pub returns-in-Some : goal.returns-in-Some
unfolding tally_of
returns-in-Some c =
    let a = c.args in
    voters_here (certificate_of a.t) a.self c.requires c.in-Some.i (sym c.place_of.ensures.found ∙ c.in-Some.is)

pub returns-in-None : goal.returns-in-None
returns-in-None c =
    let a = c.args in
    voters_none (certificate_of a.t) a.self c.requires (sym c.place_of.ensures.found ∙ c.in-None.is)
