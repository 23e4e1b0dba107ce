-- The laws of `seek`: row by row, turn by turn, and past what a coarser test passes over. Assumes nothing.
use Prim.Native.Nat.{ℕ, zero, suc, ◌+◌, ◌-◌, ◌*◌, ◌<◌, ◌≤◌}
use mathlib.Core.Path.{◌≡◌, refl, ap, ap₂, ◌∙◌}
use mathlib.Core.Bool.{Bool, true, false}
use native.Mathlib.Omega.{arith}
use native.Mathlib.Numerals.{add-one}
use native.Mathlib.Nat.{mul-suc, mul-le-mul_left, mul-le-mul_right}
use Rattle.lookup.specs.Search.{pick, seek}

-- record i of a table lies before its end
pub record_within : (base size i end n : ℕ) → i < end → base + size * end ≤ n → base + size * i + size ≤ n
record_within base size i end n h l =
    let p : size * suc i ≤ size * end = mul-le-mul_left size h in
    omega (arith, mul-suc size i)

pub turn_within : (base size i m end n : ℕ) → i + m ≤ end → base + size * end ≤ n → base + size * (i + m) ≤ n
turn_within base size i m end n h l =
    let p : size * (i + m) ≤ size * end = mul-le-mul_left size h in
    omega arith

-- a place is no greater than the slice is long
pub places_few : (base size m n : ℕ) → 40 ≤ size → base + size * m ≤ n → m ≤ n
places_few base size m n h l =
    let p : 1 * m ≤ size * m = mul-le-mul_right m (omega arith) in
    omega arith

module _ (p : ℕ → Bool) where
  pub seek_end : (i n : ℕ) → n ≤ i → seek p i (n - i) ≡ i
  unfolding seek
  seek_end i n h = let e : n - i ≡ 0 = omega arith in rw e

  left : (i n : ℕ) → i < n → n - i ≡ suc (n - suc i)
  left i n h = omega arith

  pub seek_here : (i n : ℕ) → i < n → p i ≡ true → seek p i (n - i) ≡ i
  unfolding seek
  seek_here i n h t = rw (left i n h, t)

  pub seek_next : (i n : ℕ) → i < n → p i ≡ false → seek p i (n - i) ≡ seek p (i + 1) (n - (i + 1))
  unfolding seek
  seek_next i n h t = rw (left i n h, t, add-one i)

  seek_least : (i n : ℕ) → i ≤ seek p i n
  unfolding seek
  seek_least i zero = omega arith
  seek_least i (suc n) = go (p i) (seek_least (suc i) n)
    where
      go : (b : Bool) → suc i ≤ seek p (suc i) n → i ≤ pick b i (seek p (suc i) n)
      go true h = omega arith
      go false h = omega arith

  pub seek_from : (i n j : ℕ) → j ≡ seek p i n → i ≤ j
  seek_from i n j e = rw e (seek_least i n)

  -- a turn of m places has the one sought
  pub seek_stops : (i m n : ℕ) → m ≤ n → seek p i m < i + m → seek p i n ≡ seek p i m
  unfolding seek
  seek_stops i zero n l h = absurd (omega arith)
  seek_stops i (suc m) zero l h = absurd (omega arith)
  seek_stops i (suc m) (suc n) l h = go (p i) (seek_stops (suc i) m n (omega arith)) h
    where
      go : (b : Bool) → (seek p (suc i) m < suc i + m → seek p (suc i) n ≡ seek p (suc i) m) → pick b i (seek p (suc i) m) < i + suc m → pick b i (seek p (suc i) n) ≡ pick b i (seek p (suc i) m)
      go true r h = refl
      go false r h = r (omega arith)

  -- or it has not
  pub seek_passes : (i m n : ℕ) → m ≤ n → i + m ≤ seek p i m → seek p i n ≡ seek p (i + m) (n - m)
  unfolding seek
  seek_passes i zero n l h = let e : i + 0 ≡ i = omega arith in let d : n - 0 ≡ n = omega arith in rw (e, d)
  seek_passes i (suc m) zero l h = absurd (omega arith)
  seek_passes i (suc m) (suc n) l h = go (p i) (seek_passes (suc i) m n (omega arith)) h
    where
      go : (b : Bool) → (suc i + m ≤ seek p (suc i) m → seek p (suc i) n ≡ seek p (suc i + m) (n - m)) → i + suc m ≤ pick b i (seek p (suc i) m) → pick b i (seek p (suc i) n) ≡ seek p (i + suc m) (suc n - suc m)
      go true r h = absurd (omega arith)
      go false r h =
          let e : suc i + m ≡ i + suc m = omega arith in
          let d : n - m ≡ suc n - suc m = omega arith in
          r (omega arith) ∙ ap₂ (seek p) e d

-- where q fails, p does: what q passes over, p does
module _ (p q : ℕ → Bool) (f : (i : ℕ) → q i ≡ false → p i ≡ false) where
  over : (i n : ℕ) → seek p i n ≡ seek p (seek q i n) (i + n - seek q i n)
  unfolding seek
  over i zero = let e : i + 0 - i ≡ 0 = omega arith in rw e
  over i (suc n) = go (q i) (over (suc i) n) refl
    where
      go : (b : Bool) → seek p (suc i) n ≡ seek p (seek q (suc i) n) (suc i + n - seek q (suc i) n) → q i ≡ b → seek p i (suc n) ≡ seek p (pick b i (seek q (suc i) n)) (i + suc n - pick b i (seek q (suc i) n))
      go true r d = let e : i + suc n - i ≡ suc n = omega arith in rw e
      go false r d =
          let j = seek q (suc i) n in
          let e : suc i + n - j ≡ i + suc n - j = omega arith in
          let h : seek p i (suc n) ≡ seek p (suc i) n = rw (f i d) in
          h ∙ r ∙ ap (seek p j) e

  pub seek_over : (i n j : ℕ) → j ≡ seek q i (n - i) → seek p i (n - i) ≡ seek p j (n - j)
  seek_over i n j d =
      let e : i + (n - i) - j ≡ n - j = omega (arith, seek_from q i (n - i) j d) in
      over i (n - i) ∙ rw (← d) (ap (seek p j) e)
