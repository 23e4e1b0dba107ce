-- `search::conflict_from` meets its contract. Assumes nothing.
use mathlib.Core.Option.{none}
use borrow.Author.Rules.{rules}
use Rattle.rules.specs.Words.{conflict}
use Rattle.wire.specs.Meaning.{statement_of}
use Rattle.store.proofs.Counts.{long}
use Rattle.search.proofs.conflict_from.Goals as goal

pub first_from-requires-clause-callable : goal.first_from-requires-clause-callable
first_from-requires-clause-callable c = let k = long c.requires in λ i l. search rules

pub returns : goal.returns
returns c = c.first_from.ensures (conflict (statement_of c.args.x none)) (λ i b h. search rules)
