-- `search::statement_count` meets its contract. Assumes nothing.
use native.Mathlib.Omega.{arith}
use Rattle.store.proofs.Loaded.{loaded_statements}
use Rattle.store.proofs.Counts.{long, few_statements_lem}
use Rattle.search.proofs.statement_count.Goals as goal

pub load-station-requires : goal.load-station-requires
load-station-requires c =
    omega (arith, long c.requires)

pub returns : goal.returns
returns c =
    let e = loaded_statements c.load-station.result c.args.store.now c.load-station.ensures in
    (e, omega (arith, few_statements_lem c.requires))
