-- `is_whole` meets its contract. Assumes nothing.
use mathlib.Core.Path.{ap, sym, ◌∙◌}
use lib.Dec.{eqb}
use lib.ListN.{length}
use borrow.Author.Tests.{eq-eqb}
use Rattle.rules.specs.Limits.{Size, large, last_view, most_statements, most_tallies}
use Rattle.store.specs.Layout.{store_length}
use Rattle.store.proofs.Forms.{is_large, is_small}
use Rattle.store.proofs.is_whole.Goals as goal

pub returns-then-store-eq-LENGTH_LARGE : goal.returns-then-store-eq-LENGTH_LARGE
unfolding last_view most_statements most_tallies
returns-then-store-eq-LENGTH_LARGE c =
    let b = c.args.store.now in
    sym (ap (λ (z : Size). eqb (length b) (store_length z)) (is_large b c.if-store-eq-LENGTH_LARGE.true) ∙ eq-eqb (length b) (store_length large) c.if-store-eq-LENGTH_LARGE.true)

pub returns : goal.returns
unfolding last_view most_statements most_tallies
returns c =
    let b = c.args.store.now in
    sym (ap (λ (z : Size). eqb (length b) (store_length z)) (is_small b c.if-store-eq-LENGTH_LARGE.false))
