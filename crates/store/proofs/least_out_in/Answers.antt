-- `least_out_in` meets its contract: one column or the other. Assumes nothing.
use mathlib.Core.Path.{ap, sym}
use Rattle.rules.specs.Limits.{last_view, most_statements, most_tallies, least_out}
use Rattle.store.proofs.Forms.{is_large, is_small}
use Rattle.store.proofs.least_out_in.Goals as goal

pub returns-then-store-eq-LENGTH_LARGE : goal.returns-then-store-eq-LENGTH_LARGE
unfolding last_view most_statements most_tallies least_out
returns-then-store-eq-LENGTH_LARGE c = sym (ap least_out (is_large c.args.store.now c.if-store-eq-LENGTH_LARGE.true))

pub returns : goal.returns
unfolding last_view most_statements most_tallies least_out
returns c = sym (ap least_out (is_small c.args.store.now c.if-store-eq-LENGTH_LARGE.false))
