-- What digits say. Assumes nothing.
use Prim.Native.Nat.{ℕ, suc, ◌+◌, ◌-◌, ◌*◌, ◌^◌, ◌<◌, ◌≤◌}
use mathlib.Core.Path.{◌≡◌, refl, sym, ap, ◌∙◌}
use mathlib.Core.Bool.{true, false, ◌&&◌, and-false}
use mathlib.Core.List.{List, [], ◌∷◌, ◌++◌}
use mathlib.Core.Option.{none, some}
use native.Mathlib.Omega.{arith}
use native.Mathlib.Nat.{pow-zero, pow-succ', pow-le-pow_right, mul_assoc, add-mul, add_assoc, zero-mul, mul-one}
use lib.ListN.{length, take, drop, get_or, drop_of_length-le}
use lib.Dec.{leb, ltb, eqb}
use borrow.Author.Tests.{lt-ltb, le-ltb, le-leb, lt-leb, leb-true, ltb-true, ltb-false}
use Rattle.rules.specs.Lists.{within, all}
use Rattle.rules.specs.Sizes.{only, joined}
use Rattle.laws.proofs.Masks.{joined_lt}
use Rattle.laws.proofs.Tests.{by_bool, by_option, and_left, and_right, no_some}
use Rattle.text.specs.Words.{is_decimal, digit, value, is_number, decimal, split, begin, stations, mask, is_dash, front, behind, in_station}
use Rattle.text.specs.Places.{Runs}
use Rattle.text.proofs.Runs.{drop_step}

pub within_low : (a b x : ℕ) → within a b x ≡ true → a ≤ x
unfolding within
within_low a b x e = leb-true a x (and_left (leb a x) (leb x b) e)

pub within_high : (a b x : ℕ) → within a b x ≡ true → x ≤ b
unfolding within
within_high a b x e = leb-true x b (and_right (leb a x) (leb x b) e)

within_is : (a b x : ℕ) → a ≤ x → x ≤ b → within a b x ≡ true
unfolding within
within_is a b x h k = rw (le-leb a x h, le-leb x b k)

within_not : (a b x : ℕ) → (a ≤ x → x ≤ b → ⊥) → within a b x ≡ false
within_not a b x n = by_bool (within a b x) (λ e. absurd (n (within_low a b x e) (within_high a b x e))) (λ e. e)

-- a digit by its place among the bytes
module _ (b : ℕ) where
  pub digit_decimal : 48 ≤ b → b ≤ 57 → digit b ≡ b - 48
  unfolding digit is_decimal
  digit_decimal h k = rw (within_is 48 57 b h k, digit)

  pub digit_small : 97 ≤ b → b ≤ 102 → digit b ≡ b - 97 + 10
  unfolding digit is_decimal
  digit_small h k = rw (within_not 48 57 b (λ l m. omega arith), within_is 97 102 b h k, digit)

  pub digit_capital : 65 ≤ b → b ≤ 70 → digit b ≡ b - 65 + 10
  unfolding digit is_decimal
  digit_capital h k = rw (within_not 48 57 b (λ l m. omega arith), within_not 97 102 b (λ l m. omega arith), within_is 65 70 b h k, digit)

  pub digit_none : (48 ≤ b → b ≤ 57 → ⊥) → (97 ≤ b → b ≤ 102 → ⊥) → (65 ≤ b → b ≤ 70 → ⊥) → digit b ≡ 0
  unfolding digit is_decimal
  digit_none h k l = rw (within_not 48 57 b h, within_not 97 102 b k, within_not 65 70 b l, digit)

-- ---- the number of some digits

module _ (base : ℕ) where
  pub value_append : (n : ℕ) (s t : List ℕ) → value base n (s ++ t) ≡ value base (value base n s) t
  unfolding value
  value_append n [] t = refl
  value_append n (b ∷ s) t = value_append (n * base + digit b) s t

  -- the digits in front count for the more
  pub value_front : (n : ℕ) (s : List ℕ) → value base n s ≡ n * base ^ length s + value base 0 s
  unfolding value
  value_front n [] = omega (arith, ap (n *◌) (pow-zero base), mul-one n)
  value_front n (b ∷ s) =
      let p = base ^ length s in
      let v = value base 0 s in
      let z : 0 * base + digit b ≡ digit b = omega (arith, zero-mul base) in
      value_front (n * base + digit b) s
      ∙ ap (◌+ v) (add-mul (n * base) (digit b) p ∙ ap (◌+ digit b * p) (mul_assoc n base p ∙ ap (n *◌) (sym (pow-succ' base (length s)))))
      ∙ add_assoc (n * base ^ suc (length s)) (digit b * p) v
      ∙ ap (n * base ^ suc (length s) +◌) (sym (ap (λ (x : ℕ). value base x s) z ∙ value_front (digit b) s))

  pub value_step : (n : ℕ) (s : List ℕ) (i : ℕ) → i < length s → value base n (drop i s) ≡ value base (n * base + digit (get_or s i 0)) (drop (i + 1) s)
  unfolding value
  value_step n s i h = ap (value base n) (drop_step s i 0 h)

  pub value_end : (n : ℕ) (s : List ℕ) (i : ℕ) → length s ≤ i → value base n (drop i s) ≡ n
  unfolding value
  value_end n s i h = ap (value base n) (drop_of_length-le s h)

-- ---- decimal numbers

-- a number only grows by more digits
pub value_grows : (n : ℕ) (s : List ℕ) → n ≤ value 10 n s
unfolding value
value_grows n [] = omega arith
value_grows n (b ∷ s) = omega (arith, value_grows (n * 10 + digit b) s)

module _ (most : ℕ) (w : List ℕ) where
  decimal_none : is_number most w ≡ false → decimal most w ≡ none
  unfolding decimal
  decimal_none e = rw (e, decimal)

  pub decimal_empty : length w ≡ 0 → decimal most w ≡ none
  unfolding is_number
  decimal_empty h = decimal_none (rw (le-ltb 0 (length w) (omega arith)))

  pub decimal_other : all is_decimal w ≡ false → decimal most w ≡ none
  unfolding is_number
  decimal_other e = decimal_none (rw e (ap (◌&& leb (value 10 0 w) most) (and-false (ltb 0 (length w)))))

  pub decimal_over : most < value 10 0 w → decimal most w ≡ none
  unfolding is_number
  decimal_over h = decimal_none (rw (lt-leb (value 10 0 w) most h) (and-false (ltb 0 (length w) && all is_decimal w)))

  pub decimal_is : 0 < length w → all is_decimal w ≡ true → value 10 0 w ≤ most → decimal most w ≡ some (value 10 0 w)
  unfolding decimal is_number
  decimal_is l e h =
      let q : is_number most w ≡ true = rw (lt-ltb 0 (length w) l, e, le-leb (value 10 0 w) most h) in rw (q, decimal)

  pub decimal_most : (v : ℕ) → decimal most w ≡ some v → v ≤ most
  unfolding decimal is_number
  decimal_most v e =
      by_bool (is_number most w)
      (λ q.
      let z : some (value 10 0 w) ≡ some v = rw (q, decimal) at e in
      let y : value 10 0 w ≡ v = cc in
      omega (arith, y, leb-true (value 10 0 w) most (and_right (ltb 0 (length w) && all is_decimal w) (leb (value 10 0 w) most) q)))
      (λ q. no_some (sym (decimal_none q) ∙ e))

-- ---- masks

split_end : (t : List ℕ) → behind in_station t ≡ [] → split t ≡ front in_station t ∷ []
unfolding split begin front behind in_station
split_end [] e = refl
split_end (b ∷ t) e =
    by_bool (eqb b 43)
    (λ q. let z : b ∷ t ≡ [] = rw (q, behind) at e in let y : ◌≡◌ {A = ℕ} 0 1 = cc in absurd (omega arith))
    (λ q. rw (q, split, front) (ap (begin b) (split_end t (rw (q, behind) at e))))

split_more : (t : List ℕ) (b : ℕ) (u : List ℕ) → behind in_station t ≡ b ∷ u → split t ≡ front in_station t ∷ split u
unfolding split begin front behind in_station
split_more [] b u e = let y : ◌≡◌ {A = ℕ} 0 1 = cc in absurd (omega arith)
split_more (a ∷ t) b u e =
    by_bool (eqb a 43)
    (λ q. let z : a ∷ t ≡ b ∷ u = rw (q, behind) at e in let y : t ≡ u = cc in rw (q, split, front) (ap (λ (l : List ℕ). [] ∷ split l) y))
    (λ q. rw (q, split, front) (ap (begin a) (split_more t b u (rw (q, behind) at e))))

module _ (m : ℕ) (w : List ℕ) (ws : List (List ℕ)) where
  pub station_none : decimal 15 w ≡ none → stations m (w ∷ ws) ≡ none
  unfolding stations
  station_none e = rw (e, stations)

  pub station_is : (i : ℕ) → decimal 15 w ≡ some i → stations m (w ∷ ws) ≡ stations (joined m (only i)) ws
  unfolding stations
  station_is i e = rw (e, stations)

-- one station of a mask, from a place up to the next '+' or the end
module _ (m : ℕ) (w : List ℕ) (from end : ℕ) (r : Runs in_station w from end) where
  here : List ℕ
  here = take (end - from) (drop from w)

  split_last : length w ≤ end → split (drop from w) ≡ here ∷ []
  unfolding here
  split_last h = split_end (drop from w) (sym r.after ∙ drop_of_length-le w h) ∙ ap (◌∷ []) (sym r.is)

  split_next : end < length w → split (drop from w) ≡ here ∷ split (drop (end + 1) w)
  unfolding here
  split_next h =
      split_more (drop from w) (get_or w end 0) (drop (end + 1) w) (sym r.after ∙ drop_step w end 0 h) ∙ ap (◌∷ split (drop (end + 1) w)) (sym r.is)

  pub mask_none : decimal 15 (take (end - from) (drop from w)) ≡ none → stations m (split (drop from w)) ≡ none
  unfolding here
  mask_none e =
      by_bool (ltb end (length w))
      (λ q. ap (stations m) (split_next (ltb-true end (length w) q)) ∙ station_none m here (split (drop (end + 1) w)) e)
      (λ q. ap (stations m) (split_last (ltb-false end (length w) q)) ∙ station_none m here [] e)

  pub mask_last : (i : ℕ) → end ≡ length w → decimal 15 (take (end - from) (drop from w)) ≡ some i → stations m (split (drop from w)) ≡ some (joined m (only i))
  unfolding here stations
  mask_last i h e = ap (stations m) (split_last (omega arith)) ∙ station_is m here [] i e

  pub mask_next : (i : ℕ) → (end ≡ length w → ⊥) → decimal 15 (take (end - from) (drop from w)) ≡ some i
      → stations m (split (drop from w)) ≡ stations (joined m (only i)) (split (drop (end + 1) w))
  unfolding here
  mask_next i n e = ap (stations m) (split_next (omega (arith, r.high, n))) ∙ station_is m here (split (drop (end + 1) w)) i e

only_lt : (i : ℕ) → i ≤ 15 → only i < 2 ^ 16
unfolding only
only_lt i h = omega (arith, pow-le-pow_right {n = 2} (omega arith) {i = i} {j = 15} h)

stations_lt : (m : ℕ) (ws : List (List ℕ)) (v : ℕ) → m < 2 ^ 16 → stations m ws ≡ some v → v < 2 ^ 16
unfolding stations
stations_lt m [] v h e = let y : m ≡ v = cc in omega (arith, y)
stations_lt m (w ∷ ws) v h e =
    by_option (decimal 15 w) (λ q. no_some (sym (station_none m w ws q) ∙ e))
    (λ i q. stations_lt (joined m (only i)) ws v (joined_lt 16 m (only i) h (only_lt i (decimal_most 15 w i q))) (sym (station_is m w ws i q) ∙ e))

pub mask_lt : (w : List ℕ) (v : ℕ) → mask w ≡ some v → v < 2 ^ 16
unfolding mask
mask_lt w v e =
    by_bool (is_dash w)
    (λ q. let z : some 0 ≡ some v = rw (q, mask) at e in let y : 0 ≡ v = cc in omega (arith, y))
    (λ q. stations_lt 0 (split w) v (omega arith) (rw (q, mask) at e))

pub mask_dash : (w : List ℕ) → is_dash w ≡ true → mask w ≡ some 0
unfolding mask
mask_dash w q = rw (q, mask)

pub mask_split : (w : List ℕ) → is_dash w ≡ false → mask w ≡ stations 0 (split w)
unfolding mask
mask_split w q = rw (q, mask)
