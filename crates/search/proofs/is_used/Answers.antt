-- `search::is_used` meets its contract. Assumes nothing.
use mathlib.Core.Path.{sym, ◌∙◌}
use borrow.Author.Rules.{rules}
use Rattle.fields.specs.Names.{name_of}
use Rattle.store.specs.Layout.{statement_table, count_of}
use Rattle.store.specs.Decode.{statement_at, statements, state_from, state_of}
use Rattle.store.proofs.Counts.{long}
use Rattle.search.specs.Lookups.{uses}
use Rattle.search.proofs.Searches.{any_found}
use Rattle.search.proofs.Statements.{used_is}
use Rattle.search.proofs.is_used.Goals as goal

pub first_from-requires-clause-callable : goal.first_from-requires-clause-callable
first_from-requires-clause-callable c = let k = long c.requires in λ i l. search rules

pub returns : goal.returns
unfolding state_of state_from statements
returns c =
    let a = c.args in
    let found = c.first_from.ensures (uses (name_of a.name)) (λ i b h. search rules) in
    c.is_some.ensures ∙ any_found (statement_at a.store.now) (uses (name_of a.name)) (count_of statement_table a.store.now) found ∙ sym (used_is (state_of a.store.now) (name_of a.name))
