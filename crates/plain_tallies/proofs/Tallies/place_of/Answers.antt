-- `plain_tallies::Tallies::place_of` meets its contract. Assumes nothing.
use mathlib.Core.Path.{◌∙◌}
use lib.ListN.{take}
use Rattle.std.proofs.Common.{rules, tests}
use Rattle.std.proofs.lemmas.Iterator.{YieldsList-from_slice}
use Rattle.std.proofs.lemmas.Iterator.Search.{position_from_yields_List}
use Rattle.rules.specs.Words as words
use Rattle.plain_words.specs.Meaning.{certificate_of}
use Rattle.plain_words.proofs.Searches.{position_firsts}
use Rattle.plain_tallies.specs.declared.Tally.{Tally}
use Rattle.plain_tallies.specs.Meaning.{tally_of, tallies}
use Rattle.plain_tallies.proofs.Tallies.place_of.Goals as goal

pub returns-clause-found : goal.returns-clause-found
unfolding tallies
returns-clause-found c =
    let a = c.args in let test = words.of_block (certificate_of a.t) in
    position_from_yields_List (λ (x : Tally). test (tally_of x)) _ _ c.position.result c.position.ensures.ran (YieldsList-from_slice (take a.self.count a.self.items) (cc)) (λ x b q k. search (rules, tests))
    ∙ position_firsts tally_of test a.self.items a.self.count
