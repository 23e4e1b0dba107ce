-- A mask's bits are the low ones of a number: what lies above them is not counted. Assumes nothing.
use Prim.Native.Nat.{ℕ, zero, suc, ◌+◌, ◌/◌, ◌%◌, ◌^◌}
use mathlib.Core.Path.{◌≡◌, refl, sym, ap, ap₂, ◌∙◌}
use native.Mathlib.Numerals.{add-one}
use native.Mathlib.Omega.{arith}
use lib.Count.{ones_in, ones}
use lib.Pow.{field, mod-mod-pow}
use Rattle.rules.specs.Limits.{mask_bits}
use Rattle.rules.specs.Sizes.{count}
use Rattle.laws.proofs.Masks.{count_ones}

low_ones : (k m : ℕ) → ones_in k (m % 2 ^ k) ≡ ones_in k m
unfolding ones_in
low_ones zero m = refl
low_ones (suc k) m =
    let lo : m % 2 ^ suc k % 2 ≡ m % 2 = rw (← add-one k) (mod-mod-pow m k 1) in
    let hi : m % 2 ^ suc k / 2 ≡ m / 2 % 2 ^ k = rw (← add-one k) (field m k 1) in
    ap₂ ◌+◌ lo (ap (ones_in k) hi ∙ low_ones k (m / 2))

pub count_low : (m : ℕ) → ones (m % 2 ^ mask_bits) ≡ count m
unfolding count
count_low m = sym (count_ones (m % 2 ^ mask_bits) (omega arith)) ∙ low_ones mask_bits m
