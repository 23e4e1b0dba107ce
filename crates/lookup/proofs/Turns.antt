-- Bytes turned about: of one number only, and the same of a number as of the place that holds it. Assumes nothing.
use Prim.Native.Nat.{ℕ, zero, suc, ◌+◌, ◌-◌, ◌*◌, ◌/◌, ◌%◌, ◌^◌, ◌<◌, ◌≤◌}
use mathlib.Core.Path.{◌≡◌, ap, ap₂}
use mathlib.Core.List.{List}
use native.Mathlib.Omega.{arith}
use native.Mathlib.Nat.{pow-suc}
use native.Mathlib.Numerals.{sub-one}
use lib.Dec.{eqb}
use lib.ListN.{get_or}
use borrow.Author.Tests.{eqb-true, eqb-false, eq-eqb, ne_eqb}
use Rattle.std.specs.Int.{w64, swap_bytes}
use Rattle.laws.proofs.Tests.{by_bool}
use Rattle.fields.specs.Places.{Bytes, number}
use Rattle.lookup.specs.Search.{turn}

-- the library's turning about of a word
pub turn_bytes : (v : ℕ) → v < 2 ^ 64 → swap_bytes w64 v ≡ turn 8 v 0
unfolding turn
turn_bytes v h = omega arith

-- one byte, as a loop downward counts
pub turn_number : (s : List ℕ) → Bytes s → (at k r : ℕ) → 0 < k → turn k (number s at k) r ≡ turn (k - 1) (number s at (k - 1)) (r * 256 + get_or s (at + (k - 1)) 0)
unfolding turn number
turn_number s b at zero r h = absurd (omega arith)
turn_number s b at (suc k) r h =
    let hi : number s at (suc k) / 256 ≡ number s at k = omega (arith, b (at + k)) in
    let lo : number s at (suc k) % 256 ≡ get_or s (at + k) 0 = omega (arith, b (at + k)) in
    rw sub-one (ap₂ (turn k) hi (ap (λ (x : ℕ). r * 256 + x) lo))

-- the bytes and what stands before them can be read back
turn_inj : (w v u r q : ℕ) → v < 256 ^ w → u < 256 ^ w → turn w v r ≡ turn w u q → (v ≡ u) × (r ≡ q)
unfolding turn
turn_inj zero v u r q h l e = (omega arith, e)
turn_inj (suc w) v u r q h l e =
    let p = turn_inj w (v / 256) (u / 256) (r * 256 + v % 256) (q * 256 + u % 256) (omega (arith, pow-suc 256 w)) (omega (arith, pow-suc 256 w)) e in
    (omega (arith, p.0, p.1), omega (arith, p.1))

pub turn_same : (v u : ℕ) → v < 256 ^ 8 → u < 256 ^ 8 → eqb (turn 8 v 0) (turn 8 u 0) ≡ eqb v u
turn_same v u h l = by_bool (eqb v u)
    (λ t. rw t (eq-eqb _ _ (ap (λ (x : ℕ). turn 8 x 0) (eqb-true v u t))))
    (λ f. rw f (ne_eqb _ _ (λ e. eqb-false v u f (turn_inj 8 v u 0 0 h l e).0)))

pub turn_end : (k v r : ℕ) → k ≤ 0 → turn k v r ≡ r
unfolding turn
turn_end k v r h = let e : k ≡ 0 = omega arith in rw e

-- one byte more keeps a word's room
pub turn_room : (k r x : ℕ) → 0 < k → k ≤ 8 → r < 256 ^ (8 - k) → x < 256 → r * 256 + x < 256 ^ (8 - (k - 1))
turn_room k r x h l b d = let e : 8 - (k - 1) ≡ suc (8 - k) = omega arith in rw e (omega (arith, pow-suc 256 (8 - k)))
