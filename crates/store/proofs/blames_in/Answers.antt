-- `blames_in` meets its contract: one column or the other. Assumes nothing.
use mathlib.Core.Path.{ap, sym}
use Rattle.rules.specs.Limits.{Size, last_view, most_statements, most_tallies}
use Rattle.store.specs.Layout.{blame_base}
use Rattle.store.proofs.Forms.{is_large, is_small}
use Rattle.store.proofs.blames_in.Goals as goal

pub returns-then-store-eq-LENGTH_LARGE : goal.returns-then-store-eq-LENGTH_LARGE
unfolding last_view most_statements most_tallies
returns-then-store-eq-LENGTH_LARGE c = sym (ap (λ (z : Size). (blame_base) z) (is_large c.args.store.now c.if-store-eq-LENGTH_LARGE.true))

pub returns : goal.returns
unfolding last_view most_statements most_tallies
returns c = sym (ap (λ (z : Size). (blame_base) z) (is_small c.args.store.now c.if-store-eq-LENGTH_LARGE.false))
