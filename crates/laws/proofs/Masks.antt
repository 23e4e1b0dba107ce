-- Masks and quorums, once for every n = 2f+1: joining loses nobody and counts nobody twice, a quorum has a station outside
-- any f, two quorums share one. Assumes nothing.
use mathlib.Core.Path.{◌≡◌, refl, sym, ap}
use Prim.Native.Nat.{ℕ, zero, suc, ◌+◌, ◌/◌, ◌%◌, ◌^◌, ◌≤◌, ◌<◌, min, max}
use native.Mathlib.Nat.{pow-suc, div-div-eq-div-mul, mul_comm, pow-le-pow_right, div-eq_of_lt}
use native.Mathlib.Omega.{arith}
use native.Mathlib.Decide.{dec_lt}
use mathlib.Core.Bool.{true}
use lib.Arith.{digits_div, digits_mod, lt-one}
use lib.Bits.{bit_or, bit_and, or_step, and_step, or_lt, or_shr, and_shr}
use lib.Count.{ones_in, ones, ones_step}
use borrow.Author.Tests.{ltb-true}
use Rattle.rules.specs.Limits.{mask_bits}
use Rattle.rules.specs.Sizes.{Settings, faults, bit, joined, count, quorum}

bit_two : (m i : ℕ) → bit m i < 2
bit_two m i = omega arith

max_two : (a b : ℕ) → max (a % 2) (b % 2) < 2
max_two a b = omega arith

min_two : (a b : ℕ) → min (a % 2) (b % 2) < 2
min_two a b = omega arith

or_half : (a b : ℕ) → bit_or a b / 2 ≡ bit_or (a / 2) (b / 2)
or_half a b = rw or_step (digits_div (bit_or (a / 2) (b / 2)) (max_two a b))

or_low : (a b : ℕ) → bit_or a b % 2 ≡ max (a % 2) (b % 2)
or_low a b = rw or_step (digits_mod (bit_or (a / 2) (b / 2)) (max_two a b))

and_half : (a b : ℕ) → bit_and a b / 2 ≡ bit_and (a / 2) (b / 2)
and_half a b = rw and_step (digits_div (bit_and (a / 2) (b / 2)) (min_two a b))

and_low : (a b : ℕ) → bit_and a b % 2 ≡ min (a % 2) (b % 2)
and_low a b = rw and_step (digits_mod (bit_and (a / 2) (b / 2)) (min_two a b))

-- ---- bits

-- a station is in two masks joined exactly when it is in one of them
pub joined_bit : (a b i : ℕ) → bit (joined a b) i ≡ max (bit a i) (bit b i)
unfolding joined
joined_bit a b i = rw (or_shr, or_low)

pub both_bit : (a b i : ℕ) → bit (bit_and a b) i ≡ min (bit a i) (bit b i)
both_bit a b i = rw (and_shr, and_low)

-- joining loses nobody
pub joined_left : (a b i : ℕ) → bit a i ≡ 1 → bit (joined a b) i ≡ 1
joined_left a b i h = let t = bit_two b i in rw joined_bit (omega arith)

pub joined_right : (a b i : ℕ) → bit b i ≡ 1 → bit (joined a b) i ≡ 1
joined_right a b i h = let t = bit_two a i in rw joined_bit (omega arith)

-- masks below 2^n stay so
pub joined_lt : (n a b : ℕ) → a < 2 ^ n → b < 2 ^ n → joined a b < 2 ^ n
unfolding joined
joined_lt n a b h k = or_lt n a b h k

-- a mask of n stations has no bit at n or above
pub bit_below : (n m i : ℕ) → m < 2 ^ n → bit m i ≡ 1 → i < n
bit_below n m i h e =
    elim (dec_lt i n) [
      | yes k ↦ k
      | no k ↦
          let p = pow-le-pow_right {n = 2} (omega arith) {i = n} {j = i} (omega arith) in
          let z = div-eq_of_lt {n = m} {m = 2 ^ i} (omega arith) in
          absurd (omega arith)
    ]

-- ---- counts

-- nobody is counted twice: those in both make the difference
ones_both : (d a b : ℕ) → ones_in d (bit_or a b) + ones_in d (bit_and a b) ≡ ones_in d a + ones_in d b
unfolding ones_in
ones_both zero a b = refl
ones_both (suc d) a b = let ih = ones_both d (a / 2) (b / 2) in rw (or_half, and_half, or_low, and_low) (omega arith)

pub count_joined : (a b : ℕ) → count (joined a b) + count (bit_and a b) ≡ count a + count b
unfolding count joined
count_joined a b = ones_both mask_bits a b

ones_most : (d n m : ℕ) → m < 2 ^ n → ones_in d m ≤ n
unfolding ones_in
ones_most zero n m h = omega arith
ones_most (suc d) zero m h = let ih = ones_most d zero (m / 2) (omega arith) in omega arith
ones_most (suc d) (suc n) m h = let k = rw pow-suc at h in let ih = ones_most d n (m / 2) (omega arith) in omega arith

-- a mask of n stations counts at most n
pub count_most : (n m : ℕ) → m < 2 ^ n → count m ≤ n
unfolding count
count_most n m h = ones_most mask_bits n m h

ones_none : (d : ℕ) → ones_in d 0 ≡ 0
unfolding ones_in
ones_none zero = refl
ones_none (suc d) = let ih = ones_none d in omega arith

pub count_none : count 0 ≡ 0
unfolding count
count_none = ones_none mask_bits

bit_suc : (m i : ℕ) → bit (m / 2) i ≡ bit m (suc i)
bit_suc m i = rw (pow-suc, mul_comm (2 ^ i) 2, div-div-eq-div-mul)

ones_more : (d a b : ℕ) → ones_in d b < ones_in d a → (i : ℕ) × (i < d) × (bit a i ≡ 1) × (bit b i ≡ 0)
unfolding ones_in
ones_more zero a b h = absurd (omega arith)
ones_more (suc d) a b h =
    elim (dec_lt (ones_in d (b / 2)) (ones_in d (a / 2))) [
      | yes k ↦ (let r = ones_more d (a / 2) (b / 2) k in (suc r.0, omega arith, rw (← bit_suc) r.2, rw (← bit_suc) r.3))
      | no k ↦ (0, omega arith, omega arith, omega arith)
    ]

-- where a counts more than b, some station is in a and not in b
pub count_more : (a b : ℕ) → count b < count a → (i : ℕ) × (i < mask_bits) × (bit a i ≡ 1) × (bit b i ≡ 0)
unfolding count
count_more a b h = ones_more mask_bits a b h

-- the count of a mask is the count of the digits 1 of its number, by which code counts
ones_digits : (d m : ℕ) → m < 2 ^ d → ones_in d m ≡ ones m
unfolding ones_in ones
ones_digits zero m h = ap ones (sym (lt-one h))
ones_digits (suc d) m h =
    let k = rw pow-suc at h in rw ones_step (ap (λ (x : ℕ). m % 2 + x) (ones_digits d (m / 2) (omega arith)))

pub count_ones : (m : ℕ) → m < 2 ^ mask_bits → count m ≡ ones m
unfolding count
count_ones m h = ones_digits mask_bits m h

-- ---- quorums

pub quorum_count : (g : Settings) (m : ℕ) → quorum g m ≡ true → faults g < count m
unfolding quorum
quorum_count g m e = ltb-true (faults g) (count m) e

-- a mask of f+1 stations has one outside any f
pub quorum_sound : (g : Settings) (m faulty : ℕ) → quorum g m ≡ true → count faulty ≤ faults g
    → (i : ℕ) × (i < mask_bits) × (bit m i ≡ 1) × (bit faulty i ≡ 0)
quorum_sound g m faulty q h = let k = quorum_count g m q in count_more m faulty (omega arith)

-- two masks of f+1 stations among n = 2f+1 share one
pub quorums_meet : (g : Settings) (a b : ℕ) → g.n % 2 ≡ 1 → a < 2 ^ g.n → b < 2 ^ g.n → quorum g a ≡ true → quorum g b ≡ true
    → (i : ℕ) × (i < mask_bits) × (bit a i ≡ 1) × (bit b i ≡ 1)
quorums_meet g a b odd la lb qa qb =
    let ca = quorum_count g a qa in
    let cb = quorum_count g b qb in
    let c = count_joined a b in
    let o = count_most g.n (joined a b) (joined_lt g.n a b la lb) in
    let z = count_none in
    let r = count_more (bit_and a b) 0 (omega arith) in
    let e = both_bit a b r.0 in
    let ta = bit_two a r.0 in
    let tb = bit_two b r.0 in
    let one = r.2 in
    (r.0, r.1, omega arith, omega arith)

-- a quorum stays one when others join
pub quorum_joined : (g : Settings) (a b : ℕ) → quorum g a ≡ true → faults g < count (joined a b)
quorum_joined g a b q =
    let k = quorum_count g a q in
    elim (dec_lt (count (joined a b)) (count a)) [
      | yes l ↦
          let r = count_more a (joined a b) l in
          let e = joined_left a b r.0 r.2 in
          let z = r.3 in
          absurd (omega arith)
      | no l ↦ omega arith
    ]
