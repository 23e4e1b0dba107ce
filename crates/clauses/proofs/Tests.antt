-- Tests of masks and leaders as the code has them and as the rules do. Assumes nothing.
use Prim.Native.Nat.{ℕ, ◌^◌, ◌<◌, ◌≤◌}
use mathlib.Core.Path.{◌≡◌, sym}
use mathlib.Core.Bool.{true}
use native.Mathlib.Omega.{arith}
use native.Mathlib.Nat.{mod-zero, pow-le-pow_right}
use lib.Dec.{eqb, ltb}
use borrow.Author.Tests.{lt-ltb}
use Rattle.rules.specs.Sizes.{Settings, leader}

-- a mask of 16 bits has none at n or above, where n is 16 or more
pub mask_wide : (m n : ℕ) → m < 2 ^ 16 → 16 ≤ n → true ≡ ltb m (2 ^ n)
mask_wide m n h l = let p = pow-le-pow_right {n = 2} (omega arith) {i = 16} {j = n} l in sym (lt-ltb m (2 ^ n) (omega arith))

-- without stations a view is its own remainder
pub leader_none : (g : Settings) (v a : ℕ) → g.n ≡ 0 → eqb a v ≡ eqb a (leader g v)
unfolding leader
leader_none g v a e = rw (e, mod-zero)
