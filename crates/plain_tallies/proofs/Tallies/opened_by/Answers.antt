-- `plain_tallies::Tallies::opened_by` meets its contract. Assumes nothing.
use mathlib.Core.Path.{◌∙◌}
use lib.ListN.{take}
use Rattle.std.proofs.Common.{rules, tests}
use Rattle.std.proofs.lemmas.Iterator.{YieldsList-from_slice}
use Rattle.std.proofs.lemmas.Iterator.Consumers.{YieldsList-from_filter, count_from_yields_List}
use Rattle.rules.specs.Words as words
use Rattle.plain_words.proofs.Searches.{kept_firsts}
use Rattle.plain_tallies.specs.declared.Tally.{Tally}
use Rattle.plain_tallies.specs.Meaning.{opener_of, tally_of, tallies}
use Rattle.plain_tallies.proofs.Tallies.opened_by.Goals as goal

pub returns : goal.returns
unfolding tallies words.opened_by tally_of
returns c =
    let a = c.args in
    count_from_yields_List c.filter.result _ c.count.ensures.ran (YieldsList-from_filter _ (λ (x : Tally). words.is_author a.author (opener_of x.opener)) (YieldsList-from_slice (take a.self.count a.self.items) (cc)) c.filter.ensures.closure (λ x b q k. search (rules, tests)))
    ∙ kept_firsts tally_of (λ (t : words.Tally). words.is_author a.author t.opener) a.self.items a.self.count
