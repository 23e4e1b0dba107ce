-- `clauses::mask_within` meets its contract: a shift is a power of 2; a mask of 16 bits is below every greater power. Assumes nothing.
use lib.Dec.{ltb}
use native.Mathlib.Omega.{arith}
use mathlib.Core.Path.{ap}
use Rattle.rules.specs.Sizes.{only}
use Rattle.clauses.proofs.Tests.{mask_wide}
use Rattle.clauses.proofs.mask_within.Goals as goal

pub returns-then-settings-ge16 : goal.returns-then-settings-ge16
returns-then-settings-ge16 c =
    mask_wide c.args.mask c.args.settings.n (omega arith) c.if-settings-ge16.true

pub returns : goal.returns
unfolding only
returns c =
    ap (ltb c.args.mask) c.only.ensures
