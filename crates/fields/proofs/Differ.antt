-- Numbers by their digits, over any base: equality and order digit by digit, and an or of differences that is 0 exactly where there are none.
-- Assumes nothing.
use Prim.Native.Nat.{ℕ, suc, ◌+◌, ◌*◌, ◌/◌, ◌%◌, ◌<◌, ◌≤◌}
use mathlib.Core.Path.{◌≡◌, refl, sym, ap, ap₂, ◌∙◌}
use mathlib.Core.Bool.{Bool, true, false}
use native.Mathlib.Omega.{arith}
use native.Mathlib.Nat.{add-zero, zero-mul, suc-mul, le_of_lt, mul-le-mul_right, mul-add-div_right, mul-add-mod_self_right, div-eq_of_lt, mod-eq_of_lt}
use lib.Dec.{eqb, ltb}
use lib.Bits.{bit_or, bit_xor, or_add_and, xor_add_and, and_le_l, and_le_r, xor_self, xor_zero_r}
use borrow.Author.Tests.{eqb-true, eqb-false, eq-eqb, ne_eqb, ltb-true, ltb-false}

-- a number and one digit more, in base b
module _ (b n m x y : ℕ) (hx : x < b) (hy : y < b) where
  pub digit_high : n * b + x ≡ m * b + y → n ≡ m
  digit_high e =
      let h : 0 < b = omega arith in
      let p : (n * b + x) / b ≡ n = mul-add-div_right h n x ∙ rw (div-eq_of_lt hx, add-zero) in
      let q : (m * b + y) / b ≡ m = mul-add-div_right h m y ∙ rw (div-eq_of_lt hy, add-zero) in
      sym p ∙ ap (λ (k : ℕ). k / b) e ∙ q

  pub digit_low : n * b + x ≡ m * b + y → x ≡ y
  digit_low e =
      let p : (n * b + x) % b ≡ x = mul-add-mod_self_right n b x ∙ mod-eq_of_lt hx in
      let q : (m * b + y) % b ≡ y = mul-add-mod_self_right m b y ∙ mod-eq_of_lt hy in
      sym p ∙ ap (λ (k : ℕ). k % b) e ∙ q

pub digit_lt : (b n m x y : ℕ) → x < b → n < m → n * b + x < m * b + y
digit_lt b n m x y h l =
    let p : suc n * b ≤ m * b = mul-le-mul_right b l in
    let q : suc n * b ≡ n * b + b = suc-mul n b in
    omega arith

-- two orders that go with one another have the same test
pub less_test : (a b n m : ℕ) → (a < b → n < m) → (b ≤ a → m ≤ n) → ltb a b ≡ ltb n m
less_test a b n m lt le = go (ltb a b) (ltb n m) refl refl
  where
    go : (t u : Bool) → ltb a b ≡ t → ltb n m ≡ u → t ≡ u
    go true true e f = refl
    go false false e f = refl
    go true false e f = absurd (omega (arith, lt (ltb-true a b e), ltb-false n m f))
    go false true e f = absurd (omega (arith, le (ltb-false a b e), ltb-true n m f))

-- the first digits that differ decide the order
pub less_high : (b n m x y : ℕ) → x < b → y < b → (n ≡ m → ⊥) → ltb n m ≡ ltb (n * b + x) (m * b + y)
less_high b n m x y hx hy d =
    less_test n m (n * b + x) (m * b + y) (digit_lt b n m x y hx) (λ h. le_of_lt (digit_lt b m n y x hy (omega arith)))

pub less_low : (b n m x y : ℕ) → n ≡ m → ltb x y ≡ ltb (n * b + x) (m * b + y)
less_low b n m x y e =
    let p : n * b ≡ m * b = ap (λ (k : ℕ). k * b) e in
    less_test x y (n * b + x) (m * b + y) (λ h. omega arith) (λ h. omega arith)

pub or_zero : (a b : ℕ) → bit_or a b ≡ 0 → (a ≡ 0) × (b ≡ 0)
or_zero a b e =
    let p = or_add_and a b in
    let q = and_le_l a b in
    let r = and_le_r a b in
    (omega arith, omega arith)

pub xor_zero : (a b : ℕ) → bit_xor a b ≡ 0 → a ≡ b
xor_zero a b e =
    let p = xor_add_and a b in
    let q = and_le_l a b in
    let r = and_le_r a b in
    omega arith

-- any is 0 exactly where n is m
pub record Same (any n m : ℕ) : Type 0 where
  pub to : any ≡ 0 → n ≡ m
  pub from : n ≡ m → any ≡ 0

pub same_digit : (x y : ℕ) → Same (bit_xor x y) x y
same_digit x y = record { to = xor_zero x y; from = λ e. ap (bit_xor x) (sym e) ∙ xor_self x }

pub same_step : (b any n m x y : ℕ) → x < b → y < b → Same any n m → Same (bit_or any (bit_xor x y)) (n * b + x) (m * b + y)
same_step b any n m x y hx hy h = record {
  to = λ e.
      let z = or_zero any (bit_xor x y) e in
      ap₂ (λ (k d : ℕ). k * b + d) (h.to z.0) (xor_zero x y z.1);
  from = λ e. ap₂ bit_or (h.from (digit_high b n m x y hx hy e)) ((same_digit x y).from (digit_low b n m x y hx hy e));
}

pub zero_step : (b any n x : ℕ) → x < b → Same any n 0 → Same (bit_or any x) (n * b + x) 0
zero_step b any n x h g = rw (xor_zero_r, zero-mul) at (same_step b any n 0 x 0 h (omega arith) g)

pub same_test : (any n m : ℕ) → Same any n m → eqb any 0 ≡ eqb n m
same_test any n m h = go (eqb any 0) refl
  where
    go : (b : Bool) → eqb any 0 ≡ b → b ≡ eqb n m
    go true e = sym (eq-eqb n m (h.to (eqb-true any 0 e)))
    go false e = sym (ne_eqb n m (λ q. eqb-false any 0 e (h.from q)))
