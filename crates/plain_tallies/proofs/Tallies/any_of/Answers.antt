-- `plain_tallies::Tallies::any_of` meets its contract. Assumes nothing.
use mathlib.Core.Path.{ap, ◌∙◌}
use Rattle.std.specs.Prelude.{is_some}
use Rattle.rules.specs.Words as words
use Rattle.plain_words.specs.Meaning.{certificate_of}
use Rattle.plain_words.proofs.Tables.{is_any}
use Rattle.plain_tallies.specs.Meaning.{tally_of, blank, tallies, room}
use Rattle.plain_tallies.proofs.Tallies.any_of.Goals as goal

pub returns : goal.returns
unfolding tallies
returns c =
    let a = c.args in
    c.is_some.ensures ∙ ap is_some c.place_of.ensures.found ∙ is_any tally_of blank room a.self.items a.self.count c.requires (words.of_block (certificate_of a.t))
