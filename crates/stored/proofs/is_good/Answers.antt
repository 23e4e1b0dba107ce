-- `stored::is_good` is safe: the store is of its exact length. Assumes nothing.
use Rattle.std.proofs.Common.{arith}
use Rattle.stored.proofs.Exact.{exact_long}
use Rattle.stored.proofs.is_good.Goals as goal

pub well_formed-requires : goal.well_formed-requires
well_formed-requires c = exact_long _ (omega arith)
