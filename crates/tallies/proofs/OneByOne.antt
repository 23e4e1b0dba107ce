-- A mask joined is its voters added one by one: the tally's two methods do the same. Assumes nothing.
use Prim.Native.Nat.{ℕ, zero, suc, ◌+◌, ◌*◌, ◌/◌, ◌%◌, ◌^◌, ◌≤◌, ◌<◌}
use mathlib.Core.Path.{◌≡◌, refl, sym, ap, ◌∙◌}
use mathlib.Core.Bool.{true, false}
use mathlib.Core.Option.{Option, none, some}
use native.Mathlib.Omega.{arith}
use native.Mathlib.Nat.{pow-suc, mul_comm, one-mul, mod-one, mod-lt, mod-eq_of_lt}
use lib.Dec.{eqb}
use lib.Arith.{mod-mul}
use lib.Pow.{pow_pos, pow-lt}
use lib.Bits.{bit_or, or_zero_r, or_shr, or_mod, or_shifted_r}
use borrow.Author.Tests.{eqb-true, eqb-false, not-true}
use Rattle.rules.specs.Limits.{mask_bits}
use Rattle.rules.specs.Sizes.{only, bit, holds, joined, quorum}
use Rattle.rules.specs.Words.{Tally, Moment, reached_at, grown}
use Rattle.rules.specs.WellFormed.{reached_good}
use Rattle.laws.proofs.Tests.{by_bool}
use Rattle.laws.proofs.Masks.{quorum_joined}
use Rattle.laws.proofs.Tallies.{count_quorum}

-- ---- joining is associative

low_assoc : (x y z : ℕ) → x < 2 → y < 2 → z < 2 → bit_or (bit_or x y) z ≡ bit_or x (bit_or y z)
low_assoc zero zero zero a b c = refl
low_assoc zero zero (suc zero) a b c = refl
low_assoc zero (suc zero) zero a b c = refl
low_assoc zero (suc zero) (suc zero) a b c = refl
low_assoc (suc zero) zero zero a b c = refl
low_assoc (suc zero) zero (suc zero) a b c = refl
low_assoc (suc zero) (suc zero) zero a b c = refl
low_assoc (suc zero) (suc zero) (suc zero) a b c = refl
low_assoc (suc (suc x)) y z a b c = absurd (omega arith)
low_assoc zero (suc (suc y)) z a b c = absurd (omega arith)
low_assoc (suc zero) (suc (suc y)) z a b c = absurd (omega arith)
low_assoc zero zero (suc (suc z)) a b c = absurd (omega arith)
low_assoc zero (suc zero) (suc (suc z)) a b c = absurd (omega arith)
low_assoc (suc zero) zero (suc (suc z)) a b c = absurd (omega arith)
low_assoc (suc zero) (suc zero) (suc (suc z)) a b c = absurd (omega arith)

or_assoc : (d x y z : ℕ) → x < 2 ^ d → y < 2 ^ d → z < 2 ^ d → bit_or (bit_or x y) z ≡ bit_or x (bit_or y z)
or_assoc zero x y z a b c = low_assoc x y z (omega arith) (omega arith) (omega arith)
or_assoc (suc d) x y z a b c =
    let half = or_assoc d (x / 2) (y / 2) (z / 2) (omega (arith, pow-suc 2 d)) (omega (arith, pow-suc 2 d)) (omega (arith, pow-suc 2 d)) in
    let left = or_shr (bit_or x y) z 1 ∙ ap (λ (n : ℕ). bit_or n (z / 2)) (or_shr x y 1) in
    let right = or_shr x (bit_or y z) 1 ∙ ap (bit_or (x / 2)) (or_shr y z 1) in
    let low = or_mod (bit_or x y) z 1 ∙ ap (λ (n : ℕ). bit_or n (z % 2)) (or_mod x y 1) in
    let high = or_mod x (bit_or y z) 1 ∙ ap (bit_or (x % 2)) (or_mod y z 1) in
    let digit = low_assoc (x % 2) (y % 2) (z % 2) (mod-lt x (omega arith)) (mod-lt y (omega arith)) (mod-lt z (omega arith)) in
    omega arith

-- ---- one by one

-- the first d stations of a mask k join m, one after the other
pub one_by_one_lem : ℕ → ℕ → ℕ → ℕ
unfolding holds joined only
one_by_one_lem zero k m = m
one_by_one_lem (suc d) k m = elim (holds k d) [ true ↦ joined (one_by_one_lem d k m) (only d) | false ↦ one_by_one_lem d k m ]

mod_step : (d k : ℕ) → k % 2 ^ suc d ≡ bit k d * 2 ^ d + k % 2 ^ d
mod_step d k = ap (λ (n : ℕ). k % n) (pow-suc 2 d ∙ mul_comm (2 ^ d) 2) ∙ mod-mul k (omega arith) (pow_pos d)

one_by_one : (d k m : ℕ) → d ≤ mask_bits → m < 2 ^ mask_bits → one_by_one_lem d k m ≡ joined m (k % 2 ^ d)
unfolding one_by_one_lem holds joined only
one_by_one zero k m l h = sym (ap (bit_or m) (mod-one k) ∙ or_zero_r m)
one_by_one (suc d) k m l h =
    let r = k % 2 ^ d in
    let ih = one_by_one d k m (omega arith) h in
    let small : r < 2 ^ d = mod-lt k (pow_pos d) in
    let wide : 2 ^ d < 2 ^ mask_bits = pow-lt {j = mask_bits} (omega arith) in
    by_bool (eqb (bit k d) 1)
    (λ e.
    let two : k % 2 ^ suc d ≡ 1 * 2 ^ d + r = mod_step d k ∙ ap (λ (b : ℕ). b * 2 ^ d + r) (eqb-true (bit k d) 1 e) in
    rw (e, one_by_one_lem)
    (ap (λ (n : ℕ). bit_or n (2 ^ d)) ih ∙ or_assoc mask_bits m r (2 ^ d) h (omega arith) wide
    ∙ ap (λ (n : ℕ). bit_or m (bit_or r n)) (sym (one-mul (2 ^ d))) ∙ ap (bit_or m) (or_shifted_r 1 d r small ∙ sym two)))
    (λ e.
    let other = eqb-false (bit k d) 1 e in
    let none : bit k d ≡ 0 = omega arith in
    let one : k % 2 ^ suc d ≡ r = mod_step d k ∙ ap (λ (b : ℕ). b * 2 ^ d + r) none ∙ omega arith in
    rw (e, one_by_one_lem) (ih ∙ ap (bit_or m) (sym one)))

-- a mask joined is its stations joined one by one
pub joined_one_by_one : (m k : ℕ) → m < 2 ^ mask_bits → k < 2 ^ mask_bits → joined m k ≡ one_by_one_lem mask_bits k m
joined_one_by_one m k h l = sym (one_by_one mask_bits k m (omega arith) h ∙ ap (joined m) (mod-eq_of_lt l))

-- the clock of the first quorum: who join at one moment may join one after the other
pub reached_again : (at : Moment) (r : Option ℕ) (a b : ℕ) → reached_at at (reached_at at r a) (joined a b) ≡ reached_at at r (joined a b)
unfolding reached_at
reached_again at (some c) a b = refl
reached_again at none a b =
    by_bool (quorum at.settings a)
    (λ q. rw (q, reached_at, count_quorum at.settings (joined a b) (quorum_joined at.settings a b q), reached_at))
    (λ q. rw (q, reached_at))

-- and a tally that keeps its clock as it should has it already
reached_kept : (at : Moment) (now m : ℕ) (r : Option ℕ) → reached_good at.settings now m r ≡ true → reached_at at r m ≡ r
unfolding reached_good reached_at
reached_kept at now m (some c) e = refl
reached_kept at now m none e = rw (not-true (quorum at.settings m) e, reached_at)

-- a tally that a mask joins is the tally with its voters added one by one
module _ (at : Moment) where
  pub voters_added : ℕ → ℕ → Tally → Tally
  unfolding holds grown only
  voters_added zero k t = t
  voters_added (suc d) k t = elim (holds k d) [ true ↦ grown at (voters_added d k t) (only d) | false ↦ voters_added d k t ]

  -- with this mask at that moment
  with : Tally → ℕ → Tally
  with t m = record { view = t.view; height = t.height; name = t.name; mask = m; opener = t.opener; reached = reached_at at t.reached m }

  module _ (t : Tally) (now : ℕ) (good : reached_good at.settings now t.mask t.reached ≡ true) where
    voters_mask : (d k : ℕ) → voters_added d k t ≡ with t (one_by_one_lem d k t.mask)
    unfolding voters_added one_by_one_lem grown with
    voters_mask zero k = λ i. record { view = t.view; height = t.height; name = t.name; mask = t.mask; opener = t.opener; reached = sym (reached_kept at now t.mask t.reached good) i }
    voters_mask (suc d) k =
        by_bool (holds k d)
        (λ e.
        rw (e, voters_added, one_by_one_lem)
        (ap (λ (u : Tally). grown at u (only d)) (voters_mask d k)
        ∙ (λ i. record { view = t.view; height = t.height; name = t.name; mask = joined (one_by_one_lem d k t.mask) (only d); opener = t.opener; reached = reached_again at t.reached (one_by_one_lem d k t.mask) (only d) i })))
        (λ e. rw (e, voters_added, one_by_one_lem) (voters_mask d k))

    pub grown_one_by_one : (k : ℕ) → t.mask < 2 ^ mask_bits → k < 2 ^ mask_bits → grown at t k ≡ voters_added mask_bits k t
    unfolding grown with
    grown_one_by_one k h l = ap (with t) (joined_one_by_one t.mask k h l) ∙ sym (voters_mask mask_bits k)
