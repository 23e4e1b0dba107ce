-- `search::find_conflict` meets its contract. Assumes nothing.
use mathlib.Core.Path.{◌∙◌, ap}
use mathlib.Core.Option.{none}
use native.Mathlib.Omega.{arith}
use Rattle.rules.specs.Words.{conflict}
use Rattle.wire.specs.Meaning.{statement_of}
use Rattle.store.specs.Layout.{statement_table, count_of}
use Rattle.store.specs.Decode.{statement_at, statements}
use Rattle.store.specs.Searches.{first_from}
use Rattle.store.proofs.Rows.{rows_whole}
use Rattle.search.proofs.find_conflict.Goals as goal

pub returns : goal.returns
unfolding statements
returns c =
    let a = c.args in
    c.conflict_from.ensures ∙ ap (first_from (conflict (statement_of a.x none)) 0) (rows_whole (statement_at a.store.now) (count_of statement_table a.store.now) 0 (omega arith))
