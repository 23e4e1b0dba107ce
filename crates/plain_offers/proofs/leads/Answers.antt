-- `plain_offers::leads` meets its contract. Assumes nothing.
use mathlib.Core.Path.{ap₂}
use Prim.Native.Nat.{ℕ}
use mathlib.Core.Bool.{Bool, ◌&&◌}
use lib.Dec.{eqb}
use Rattle.rules.specs.Inputs as inputs
use Rattle.plain_tables.specs.Meaning.{state}
use Rattle.plain_offers.proofs.Laws.{some_stations}
use Rattle.plain_offers.proofs.leads.Goals as goal

pub leader-leader-requires : goal.leader-leader-requires
leader-leader-requires c =
    some_stations c.args.e c.requires

pub returns : goal.returns
unfolding inputs.leads state
returns c =
    rw (c.is_in-inside.ensures, c.leader-leader.ensures, c.from.ensures)
