-- A number's bytes and back, once for every width. Assumes nothing.
use mathlib.Core.Path.{◌≡◌, refl, ap, ap₂, ◌∙◌}
use Prim.Native.Nat.{ℕ, zero, suc, ◌+◌, ◌*◌, ◌/◌, ◌%◌, ◌^◌, ◌<◌}
use native.Mathlib.Nat.{pow-suc, mod-lt, div-lt_iff_lt-mul, mul_comm, div-add-mod'}
use native.Mathlib.Omega.{arith}
use mathlib.Core.List.{List, [], ◌∷◌, ◌++◌}
use lib.ListN.{length}
use lib.Arith.{digits_div, digits_mod, digits_lt}
use Rattle.rules.specs.Lists.{be, unbe}

-- every element is a byte
pub data Bytes : List ℕ → Type 0 where
  none : Bytes []
  one : {b : ℕ} {bs : List ℕ} → b < 256 → Bytes bs → Bytes (b ∷ bs)

pub bytes_split : (s : List ℕ) {r : List ℕ} → Bytes (s ++ r) → Bytes s × Bytes r
bytes_split [] h = (none, h)
bytes_split (x ∷ s) (one h hs) = let k = bytes_split s hs in (one h k.0, k.1)

pub pow_pos : (w : ℕ) → 0 < 256 ^ w
pow_pos zero = omega arith
pow_pos (suc w) = let h = pow_pos w in rw pow-suc (omega arith)

pub length_unbe : (w v : ℕ) → length (unbe w v) ≡ w
unfolding unbe
length_unbe zero v = refl
length_unbe (suc w) v = ap suc (length_unbe w (v % 256 ^ w))

pub be_lt : {bs : List ℕ} → Bytes bs → be bs < 256 ^ length bs
unfolding be
be_lt none = omega arith
be_lt (one {bs = bs} h hs) = rw pow-suc (omega (arith, digits_lt h (be_lt hs)))

pub be_unbe : (w v : ℕ) → v < 256 ^ w → be (unbe w v) ≡ v
unfolding be unbe
be_unbe zero v h = omega arith
be_unbe (suc w) v h =
    ap₂ (λ (l r : ℕ). v / 256 ^ w * 256 ^ l + r) (length_unbe w (v % 256 ^ w)) (be_unbe w (v % 256 ^ w) (mod-lt v (pow_pos w)))
    ∙ div-add-mod' v (256 ^ w)

pub unbe_be : {bs : List ℕ} → Bytes bs → unbe (length bs) (be bs) ≡ bs
unfolding be unbe
unbe_be none = refl
unbe_be (one {b} {bs} h hs) = rw (digits_div b (be_lt hs), digits_mod b (be_lt hs), unbe_be hs)

pub bytes_unbe : (w v : ℕ) → v < 256 ^ w → Bytes (unbe w v)
unfolding unbe
bytes_unbe zero v h = none
bytes_unbe (suc w) v h = one ((div-lt_iff_lt-mul {x = v} {y = 256} (pow_pos w)).1 (rw (mul_comm 256) (rw pow-suc at h))) (bytes_unbe w (v % 256 ^ w) (mod-lt v (pow_pos w)))
