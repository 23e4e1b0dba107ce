-- Numbers at places against pieces of lists: take, drop, append and cons. Assumes nothing.
use Prim.Native.Nat.{ℕ, zero, suc, ◌+◌, ◌*◌, ◌/◌, ◌%◌, ◌^◌, ◌<◌, ◌≤◌}
use mathlib.Core.Path.{◌≡◌, refl, sym, ap, ap₂, ◌∙◌}
use mathlib.Core.List.{List, [], ◌∷◌, ◌++◌}
use native.Mathlib.Omega.{arith}
use native.Mathlib.Nat.{add-zero, zero-add, suc-add, add_assoc, eq-or-lt_of_le}
use native.Mathlib.Numerals.{add-one}
use mathlib.Core.Logic.{⊎_elim}
use lib.ListN.{length, get_or, take, drop, set, get_or-append, length-drop, length-set}
use lib.Seq.{get_or-take, get_or-drop, get_or-append-add, get_or-set_same, take-set-le, drop-set-lt, length-take-le, ext_get_or}
use Rattle.fields.specs.Places.{Bytes, number, put}
use Rattle.fields.proofs.Laws.{number_ext, number_split, same_bytes, getD_put_above, length_put}

pub number_drop : (s : List ℕ) (k at w : ℕ) → number (drop k s) at w ≡ number s (k + at) w
number_drop s k at w = number_ext (drop k s) s at (k + at) w (λ i l. get_or-drop k s (at + i) 0 ∙ rw add_assoc)

pub number_take : (s : List ℕ) (n at w : ℕ) → at + w ≤ n → number (take n s) at w ≡ number s at w
number_take s n at w h = number_ext (take n s) s at at w (λ i l. get_or-take n s (at + i) 0 (omega arith))

-- the number of a place is that of its piece
pub number_piece : (s : List ℕ) (at w : ℕ) → number (take w (drop at s)) 0 w ≡ number s at w
number_piece s at w = number_take (drop at s) w 0 w (omega arith) ∙ number_drop s at 0 w ∙ rw add-zero

pub number_append_left : (s t : List ℕ) (at w : ℕ) → at + w ≤ length s → number (s ++ t) at w ≡ number s at w
number_append_left s t at w h = number_ext (s ++ t) s at at w (λ i l. get_or-append s t 0 (at + i) (omega arith))

pub number_append_right : (s t : List ℕ) (at w : ℕ) → number (s ++ t) (length s + at) w ≡ number t at w
number_append_right s t at w = number_ext (s ++ t) t (length s + at) at w (λ i l. rw (add_assoc, get_or-append-add s t (at + i) 0))

-- the first byte apart
pub number_head : (s : List ℕ) (at w : ℕ) → number s at (suc w) ≡ get_or s at 0 * 256 ^ w + number s (suc at) w
unfolding number
number_head s at w =
    let p : suc w ≡ 1 + w = omega arith in
    let q : number s at 1 ≡ get_or s at 0 = omega (arith, ap (λ (k : ℕ). get_or s k 0) (add-zero at)) in
    ap (number s at) p ∙ number_split s at 1 w ∙ ap₂ (λ (x n : ℕ). x * 256 ^ w + number s n w) q (add-one at)

pub number_tail : (x : ℕ) (s : List ℕ) (at w : ℕ) → number (x ∷ s) (suc at) w ≡ number s at w
number_tail x s at w = number_ext (x ∷ s) s (suc at) at w (λ i l. rw suc-add)

pub number_cons : (x : ℕ) (s : List ℕ) (w : ℕ) → number (x ∷ s) 0 (suc w) ≡ x * 256 ^ w + number s 0 w
number_cons x s w = number_head (x ∷ s) 0 w ∙ ap (λ (n : ℕ). x * 256 ^ w + n) (number_tail x s 0 w)

-- pieces of bytes are bytes
pub bytes_drop : (s : List ℕ) → Bytes s → (k : ℕ) → Bytes (drop k s)
bytes_drop s b k i = rw (get_or-drop k s i 0) (b (k + i))

pub bytes_take : (s : List ℕ) → Bytes s → (k : ℕ) → Bytes (take k s)
bytes_take s b zero i = record { fits = omega arith }
bytes_take [] b (suc k) i = b i
bytes_take (x ∷ s) b (suc k) zero = b zero
bytes_take (x ∷ s) b (suc k) (suc i) = bytes_take s (λ n. b (suc n)) k i

pub bytes_append : (s t : List ℕ) → Bytes s → Bytes t → Bytes (s ++ t)
bytes_append [] t b c i = c i
bytes_append (x ∷ s) t b c zero = b zero
bytes_append (x ∷ s) t b c (suc i) = bytes_append s t (λ n. b (suc n)) c i

-- lists of bytes of one length and one number are one list
pub same_list_lem : (s t : List ℕ) → Bytes s → Bytes t → length s ≡ length t → number s 0 (length s) ≡ number t 0 (length t) → s ≡ t
same_list_lem s t b c l e =
    let h : number s 0 (length s) ≡ number t 0 (length s) = e ∙ ap (number t 0) (sym l) in
    ext_get_or 0 s t l (λ i p. rw zero-add at (same_bytes s t b c 0 0 (length s) h i p))

-- the piece before a write, and the piece after it, are as they were
pub take_put : (n : ℕ) (s : List ℕ) (at w v : ℕ) → n ≤ at → take n (put s at w v) ≡ take n s
unfolding put
take_put n s at zero v h = refl
take_put n s at (suc w) v h = take_put n (set s (at + w) (v % 256)) at w (v / 256) h ∙ take-set-le n s (at + w) (v % 256) (omega arith)

pub drop_put : (n : ℕ) (s : List ℕ) (at w v : ℕ) → at + w ≤ n → drop n (put s at w v) ≡ drop n s
unfolding put
drop_put n s at zero v h = refl
drop_put n s at (suc w) v h = drop_put n (set s (at + w) (v % 256)) at w (v / 256) (omega arith) ∙ drop-set-lt n s (at + w) (v % 256) (omega arith)

-- a number of bytes, written, is those bytes
pub getD_put : (d : List ℕ) → Bytes d → (i : ℕ) (s : List ℕ) (at w k : ℕ) → at + w ≤ length s → k < w → get_or (put s at w (number d i w)) (at + k) 0 ≡ get_or d (i + k) 0
unfolding put number
getD_put d b i s at zero k h l = absurd (omega arith)
getD_put d b i s at (suc w) k h l =
    let lo : number d i (suc w) % 256 ≡ get_or d (i + w) 0 = omega (arith, b (i + w)) in
    let hi : number d i (suc w) / 256 ≡ number d i w = omega (arith, b (i + w)) in
    let x = get_or d (i + w) 0 in
    let s' = set s (at + w) x in
    rw (lo, hi)
    (⊎_elim
    (λ z. rw z (getD_put_above s' at w (number d i w) (at + w) (omega arith) ∙ get_or-set_same s (at + w) x 0 (omega arith)))
    (λ (m : k < w). getD_put d b i s' at w k (simp length-set (omega arith)) m)
    (eq-or-lt_of_le {n = k} {m = w} (omega arith)))

pub piece_put : (d : List ℕ) → Bytes d → (s : List ℕ) (at : ℕ) → at + length d ≤ length s → take (length d) (drop at (put s at (length d) (number d 0 (length d)))) ≡ d
piece_put d b s at h =
    let w = length d in
    let s' = put s at w (number d 0 w) in
    let n = length_put s at w (number d 0 w) in
    let l : length (take w (drop at s')) ≡ w = length-take-le w (drop at s') (simp length-drop (omega arith)) in
    ext_get_or 0 (take w (drop at s')) d l
    (λ i p.
    let q : i < w = omega arith in
    get_or-take w (drop at s') i 0 q ∙ get_or-drop at s' i 0 ∙ rw zero-add at (getD_put d b 0 s at w i h q))
