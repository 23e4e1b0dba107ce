-- The laws of `number` and `put`, each once for every place and width. Assumes nothing.
use Prim.Native.Nat.{ℕ, zero, suc, ◌+◌, ◌-◌, ◌*◌, ◌/◌, ◌%◌, ◌^◌, ◌<◌, ◌≤◌}
use mathlib.Core.Path.{◌≡◌, refl, sym, ap, ap₂, ◌∙◌}
use mathlib.Core.List.{List, [], ◌∷◌}
use mathlib.Core.Logic.{⊎_elim}
use native.Mathlib.Omega.{arith}
use native.Mathlib.Nat.{pow-suc, pow-succ', pow-le-pow_right, add-zero, add-suc, add_assoc, mul_assoc, div-one, div-div-eq-div-mul, mul-add-div_right, div-eq_of_lt, one-le-pow, eq-or-lt_of_le}
use native.Mathlib.Numerals.{add-one, sub-one}
use lib.ListN.{length, get_or, set, length-set}
use lib.Seq.{get_or-set_same, get_or-set_other, set-get_or, set-set, set_comm}
use Rattle.fields.specs.Places.{Bytes, number, put}

-- one byte more, as a loop upward counts
pub number_suc : (s : List ℕ) (at w : ℕ) → number s at (w + 1) ≡ number s at w * 256 + get_or s (at + w) 0
unfolding number
number_suc s at w = ap (number s at) (add-one w)

-- one byte less, as a loop downward counts
pub put_step : (s : List ℕ) (at k v : ℕ) → 0 < k → put s at k v ≡ put (set s (at + (k - 1)) (v % 256)) at (k - 1) (v / 256)
unfolding put
put_step s at zero v h = absurd (omega arith)
put_step s at (suc k) v h = rw sub-one

-- at most seven bytes leave room for one more in a word
pub pow_small : (k : ℕ) → k ≤ 7 → 256 ^ k ≤ 2 ^ 56
pow_small k h = pow-le-pow_right {n = 256} (omega arith) h

-- the number goes by the bytes alone
pub number_ext : (s t : List ℕ) (at bt w : ℕ) → ((k : ℕ) → k < w → get_or s (at + k) 0 ≡ get_or t (bt + k) 0) → number s at w ≡ number t bt w
unfolding number
number_ext s t at bt zero h = refl
number_ext s t at bt (suc w) h = ap₂ (λ (x y : ℕ). x * 256 + y) (number_ext s t at bt w (λ k l. h k (omega arith))) (h w (omega arith))

pub number_lt : (s : List ℕ) → Bytes s → (at w : ℕ) → number s at w < 256 ^ w
unfolding number
number_lt s b at zero = omega arith
number_lt s b at (suc w) = let h = number_lt s b at w in omega (arith, b (at + w), pow-suc 256 w)

pub length_put : (s : List ℕ) (at w v : ℕ) → length (put s at w v) ≡ length s
unfolding put
length_put s at zero v = refl
length_put s at (suc w) v = length_put (set s (at + w) (v % 256)) at w (v / 256) ∙ length-set s (at + w) (v % 256)

-- outside the place no byte changes
pub getD_put_below : (s : List ℕ) (at w v i : ℕ) → i < at → get_or (put s at w v) i 0 ≡ get_or s i 0
unfolding put
getD_put_below s at zero v i h = refl
getD_put_below s at (suc w) v i h =
    getD_put_below (set s (at + w) (v % 256)) at w (v / 256) i h ∙ get_or-set_other s (at + w) i (v % 256) 0 (λ e. omega arith)

pub getD_put_above : (s : List ℕ) (at w v i : ℕ) → at + w ≤ i → get_or (put s at w v) i 0 ≡ get_or s i 0
unfolding put
getD_put_above s at zero v i h = refl
getD_put_above s at (suc w) v i h =
    getD_put_above (set s (at + w) (v % 256)) at w (v / 256) i (omega arith) ∙ get_or-set_other s (at + w) i (v % 256) 0 (λ e. omega arith)

-- a number is as it was after a write before it, or after it
pub number_put_before : (s : List ℕ) (at w v bt x : ℕ) → at + w ≤ bt → number (put s at w v) bt x ≡ number s bt x
number_put_before s at w v bt x h = number_ext (put s at w v) s bt bt x (λ k l. getD_put_above s at w v (bt + k) (omega arith))

pub number_put_after : (s : List ℕ) (at w v bt x : ℕ) → bt + x ≤ at → number (put s at w v) bt x ≡ number s bt x
number_put_after s at w v bt x h = number_ext (put s at w v) s bt bt x (λ k l. getD_put_below s at w v (bt + k) (omega arith))

-- what was written is read
pub number_put_same : (s : List ℕ) (at w v : ℕ) → at + w ≤ length s → v < 256 ^ w → number (put s at w v) at w ≡ v
unfolding number put
number_put_same s at zero v h l = omega arith
number_put_same s at (suc w) v h l =
    let s' = set s (at + w) (v % 256) in
    let hi : number (put s' at w (v / 256)) at w ≡ v / 256 = number_put_same s' at w (v / 256) (simp length-set (omega arith)) (omega (arith, pow-suc 256 w)) in
    let lo : get_or (put s' at w (v / 256)) (at + w) 0 ≡ v % 256 =
    getD_put_above s' at w (v / 256) (at + w) (omega arith) ∙ get_or-set_same s (at + w) (v % 256) 0 (omega arith) in
    omega arith

-- what was read, written back, changes nothing
pub put_number : (s : List ℕ) → Bytes s → (at w : ℕ) → put s at w (number s at w) ≡ s
unfolding put number
put_number s b at zero = refl
put_number s b at (suc w) =
    let lo : number s at (suc w) % 256 ≡ get_or s (at + w) 0 = omega (arith, b (at + w)) in
    let hi : number s at (suc w) / 256 ≡ number s at w = omega (arith, b (at + w)) in
    rw (lo, hi, set-get_or s (at + w) 0) (put_number s b at w)

-- what is written is bytes again
pub bytes_set : (s : List ℕ) → Bytes s → (i x : ℕ) → x < 256 → Bytes (set s i x)
bytes_set [] b i x h k = b k
bytes_set (y ∷ s) b zero x h zero = record { fits = h }
bytes_set (y ∷ s) b zero x h (suc k) = b (suc k)
bytes_set (y ∷ s) b (suc i) x h zero = b zero
bytes_set (y ∷ s) b (suc i) x h (suc k) = bytes_set s (λ n. b (suc n)) i x h k

pub bytes_put : (s : List ℕ) → Bytes s → (at w v : ℕ) → Bytes (put s at w v)
unfolding put
bytes_put s b at zero v = b
bytes_put s b at (suc w) v = bytes_put (set s (at + w) (v % 256)) (bytes_set s b (at + w) (v % 256) (omega arith)) at w (v / 256)

-- a number in two parts
pub number_split : (s : List ℕ) (at k m : ℕ) → number s at (k + m) ≡ number s at k * 256 ^ m + number s (at + k) m
unfolding number
number_split s at k zero = rw (add-zero k) (omega arith)
number_split s at k (suc m) =
    let h = number_split s at k m in
    let p : number s at k * 256 ^ suc m ≡ number s at k * 256 ^ m * 256 = rw (pow-suc 256 m, mul_assoc) in
    rw (add-suc, add_assoc) (omega arith)

-- a write in two parts, the later part first
pub put_split : (s : List ℕ) (at k m v : ℕ) → put s at (k + m) v ≡ put (put s (at + k) m v) at k (v / 256 ^ m)
unfolding put
put_split s at k zero v = rw (add-zero, div-one)
put_split s at k (suc m) v =
    let q : v / 256 / 256 ^ m ≡ v / 256 ^ suc m = div-div-eq-div-mul v 256 (256 ^ m) ∙ ap (λ (n : ℕ). v / n) (sym (pow-succ' 256 m)) in
    rw (add-suc, add_assoc, ← q) (put_split (set s (at + (k + m)) (v % 256)) at k m (v / 256))

-- a write takes the low bytes alone
pub put_low : (s : List ℕ) (at w h l : ℕ) → put s at w (h * 256 ^ w + l) ≡ put s at w l
unfolding put
put_low s at zero h l = refl
put_low s at (suc w) h l =
    let p : h * 256 ^ suc w ≡ h * 256 ^ w * 256 = rw (pow-suc 256 w, mul_assoc) in
    let lo : (h * 256 ^ suc w + l) % 256 ≡ l % 256 = omega arith in
    let hi : (h * 256 ^ suc w + l) / 256 ≡ h * 256 ^ w + l / 256 = omega arith in
    rw (lo, hi) (put_low (set s (at + w) (l % 256)) at w h (l / 256))

-- a high and a low part written at once
pub put_both : (s : List ℕ) (at k m h l : ℕ) → l < 256 ^ m → put s at (k + m) (h * 256 ^ m + l) ≡ put (put s (at + k) m l) at k h
put_both s at k m h l p =
    let q : (h * 256 ^ m + l) / 256 ^ m ≡ h = mul-add-div_right (one-le-pow m 256 (omega arith)) h l ∙ rw (div-eq_of_lt p, add-zero) in
    put_split s at k m (h * 256 ^ m + l) ∙ rw (q, put_low (s) (at + k) m h l)

-- writes at places apart may come in either order
pub put_set : (s : List ℕ) (at w v i x : ℕ) → at + w ≤ i → set (put s at w v) i x ≡ put (set s i x) at w v
unfolding put
put_set s at zero v i x h = refl
put_set s at (suc w) v i x h =
    put_set (set s (at + w) (v % 256)) at w (v / 256) i x (omega arith)
    ∙ ap (λ (l : List ℕ). put l at w (v / 256)) (set_comm s (at + w) i (v % 256) x (λ e. omega arith))

pub put_comm : (s : List ℕ) (at w u bt x v : ℕ) → at + w ≤ bt → put (put s at w u) bt x v ≡ put (put s bt x v) at w u
unfolding put
put_comm s at w u bt zero v h = refl
put_comm s at w u bt (suc x) v h =
    rw (put_set s at w u (bt + x) (v % 256) (omega arith)) (put_comm (set s (bt + x) (v % 256)) at w u bt x (v / 256) h)

-- two writes at one place: the later holds
pub put_put : (s : List ℕ) (at w u v : ℕ) → put (put s at w u) at w v ≡ put s at w v
unfolding put
put_put s at zero u v = refl
put_put s at (suc w) u v =
    rw (put_set (set s (at + w) (u % 256)) at w (u / 256) (at + w) (v % 256) (omega arith), set-set)
    (put_put (set s (at + w) (v % 256)) at w (u / 256) (v / 256))

module _ (a b : List ℕ) (ba : Bytes a) (bb : Bytes b) (i j : ℕ) where
  -- places of the same number have the same bytes
  pub same_bytes : (w : ℕ) → number a i w ≡ number b j w → (k : ℕ) → k < w → get_or a (i + k) 0 ≡ get_or b (j + k) 0
  unfolding number
  same_bytes zero e k l = absurd (omega arith)
  same_bytes (suc w) e k l =
      let x = ba (i + w) in
      let y = bb (j + w) in
      let p : number a i w ≡ number b j w = omega arith in
      let q : get_or a (i + w) 0 ≡ get_or b (j + w) 0 = omega arith in
      ⊎_elim (λ z. rw z q) (λ h. same_bytes w p k h) (eq-or-lt_of_le {n = k} {m = w} (omega arith))
