-- `search::is_opened` meets its contract. Assumes nothing.
use mathlib.Core.Path.{◌∙◌}
use borrow.Author.Rules.{rules}
use Rattle.store.specs.Layout.{statement_table, count_of}
use Rattle.store.specs.Decode.{statement_at, statements}
use Rattle.store.proofs.Counts.{long}
use Rattle.search.specs.Lookups.{opens}
use Rattle.search.proofs.Searches.{any_found}
use Rattle.search.proofs.is_opened.Goals as goal

pub first_from-requires-clause-callable : goal.first_from-requires-clause-callable
first_from-requires-clause-callable c = let k = long c.requires in λ i l. search rules

pub returns : goal.returns
unfolding statements
returns c =
    let a = c.args in
    let found = c.first_from.ensures (opens a.view) (λ i b h. search rules) in
    c.is_some.ensures ∙ any_found (statement_at a.store.now) (opens a.view) (count_of statement_table a.store.now) found
