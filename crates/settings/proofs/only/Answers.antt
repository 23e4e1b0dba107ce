-- `settings::only` meets its contract. Assumes nothing.
use Rattle.rules.specs.Sizes.{only}
use lib.Pow.{pow-lt}
use native.Mathlib.Omega.{arith}
use native.Mathlib.Nat.{one-mul, mod-eq_of_lt}
use mathlib.Core.Path.{ap, ◌∙◌}
use Prim.Native.Nat.{ℕ, ◌%◌, ◌^◌}
use Rattle.settings.proofs.only.Goals as goal

pub returns : goal.returns
unfolding only
returns c =
    ap (λ (x : ℕ). x % 2 ^ 64) (one-mul (2 ^ c.args.station)) ∙ mod-eq_of_lt (pow-lt {j = 64} (omega arith))
