-- What a write leaves as it was, said with numbers, so that records, counts and unused parts take it alike. Assumes nothing.
use Prim.Native.Nat.{ℕ, zero, suc, ◌+◌, ◌*◌, ◌^◌, ◌<◌, ◌≤◌}
use mathlib.Core.Path.{◌≡◌, refl, sym, ap, ap₂, ◌∙◌}
use mathlib.Core.List.{List, [], ◌∷◌}
use native.Mathlib.Omega.{arith}
use native.Mathlib.Nat.{add-suc, add_assoc, mul-le-mul_left}
use lib.Dec.{leb→le}
use lib.ListN.{length, get_or, set}
use Rattle.fields.specs.Places.{number, put}
use Rattle.fields.specs.Records.{Format, fields, puts, Ordered}
use Rattle.laws.proofs.Bytes.{pow_pos}
use Rattle.fields.proofs.Laws.{number_split, number_put_same, number_put_before, number_put_after}
use Rattle.fields.proofs.Records.{ordered_le, number_puts_before, number_puts_after, fields_put_before}

-- the numbers from lo to hi are as they were
pub record SameIn (b b' : List ℕ) (lo hi : ℕ) : Type 0 where
  pub same : (at w : ℕ) → lo ≤ at → at + w ≤ hi → number b' at w ≡ number b at w

pub part : {b b' : List ℕ} {lo hi lo' hi' : ℕ} → SameIn b b' lo hi → lo ≤ lo' → hi' ≤ hi → SameIn b b' lo' hi'
part s p q = record { same = λ x w u v. s.same x w (omega arith) (omega arith) }

pub then : {b b' b'' : List ℕ} {lo hi : ℕ} → SameIn b b' lo hi → SameIn b' b'' lo hi → SameIn b b'' lo hi
then s t = record { same = λ x w u v. t.same x w u v ∙ s.same x w u v }

-- a number is written
module _ (b : List ℕ) (at w v : ℕ) where
  pub put_low : SameIn b (put b at w v) 0 at
  put_low = record { same = λ x y p q. number_put_after b at w v x y q }

  pub put_high : (hi : ℕ) → SameIn b (put b at w v) (at + w) hi
  put_high hi = record { same = λ x y p q. number_put_before b at w v x y p }

-- a record is written
module _ (b : List ℕ) (at e : ℕ) (fs : Format) (h : Ordered 0 fs e) (vs : List ℕ) where
  pub puts_low : SameIn b (puts b at fs vs) 0 at
  puts_low = record { same = λ x y p q. number_puts_after b at 0 e fs vs x y h (omega arith) }

  pub puts_high : (hi : ℕ) → SameIn b (puts b at fs vs) (at + e) hi
  puts_high hi = record { same = λ x y p q. number_puts_before b at 0 e fs vs x y h p }

-- a record is as it was where its bytes are
pub fields_same : (b b' : List ℕ) (at o e : ℕ) (fs : Format) → Ordered o fs e → SameIn b b' (at + o) (at + e) → fields b' at fs ≡ fields b at fs
fields_same b b' at o e [] h s = refl
fields_same b b' at o e (f ∷ fs) h s =
    let p = leb→le o f.0 h.0 in
    let q = ordered_le (f.0 + f.1) fs e h.1 in
    ap₂ ◌∷◌ (s.same (at + f.0) f.1 (omega arith) (omega arith))
    (fields_same b b' at (f.0 + f.1) e fs h.1 (part s (omega arith) (omega arith)))

abbrev offset : Format → ℕ → ℕ
offset fs k = (get_or fs k (0, 0)).0

abbrev width : Format → ℕ → ℕ
width fs k = (get_or fs k (0, 0)).1

later : (o e : ℕ) (fs : Format) → Ordered o fs e → (k : ℕ) → k < length fs → (o ≤ offset fs k) × (offset fs k + width fs k ≤ e)
later o e [] h k l = absurd (omega arith)
later o e (f ∷ fs) h zero l = (leb→le o f.0 h.0, ordered_le (f.0 + f.1) fs e h.1)
later o e (f ∷ fs) h (suc k) l =
    let p = leb→le o f.0 h.0 in
    let q = later (f.0 + f.1) e fs h.1 k (omega arith) in
    (omega (arith, q.0), q.1)

-- one field of a record is written
pub field_put : (b : List ℕ) (at o e : ℕ) (fs : Format) → Ordered o fs e → at + e ≤ length b → (k v : ℕ) → k < length fs → v < 256 ^ width fs k
    → fields (put b (at + offset fs k) (width fs k) v) at fs ≡ set (fields b at fs) k v
field_put b at o e [] h l k v i p = absurd (omega arith)
field_put b at o e (f ∷ fs) h l zero v i p =
    let q = ordered_le (f.0 + f.1) fs e h.1 in
    ap₂ ◌∷◌ (number_put_same b (at + f.0) f.1 v (omega arith) p)
    (fields_put_before b (at + f.0) f.1 v at (f.0 + f.1) e fs h.1 (omega arith))
field_put b at o e (f ∷ fs) h l (suc k) v i p =
    let q = later (f.0 + f.1) e fs h.1 k (omega arith) in
    ap₂ ◌∷◌ (number_put_after b (at + offset fs k) (width fs k) v (at + f.0) f.1 (omega (arith, q.0)))
    (field_put b at (f.0 + f.1) e fs h.1 l k v (omega arith) p)

-- zeros of a longer part are zeros of its beginning, and of its end
pub zero_front : (b : List ℕ) (at k m : ℕ) → number b at (k + m) ≡ 0 → number b at k ≡ 0
zero_front b at k m e = omega (arith, number_split b at k m, mul-le-mul_left (number b at k) (pow_pos m))

pub zero_end : (b : List ℕ) (at k m : ℕ) → number b at (k + m) ≡ 0 → number b (at + k) m ≡ 0
unfolding number
zero_end b at k zero e = refl
zero_end b at k (suc m) e =
    let f : number b at (k + m) * 256 + get_or b (at + (k + m)) 0 ≡ 0 = sym (ap (number b at) (add-suc k m)) ∙ e in
    let g : get_or b (at + k + m) 0 ≡ get_or b (at + (k + m)) 0 = ap (λ (x : ℕ). get_or b x 0) (add_assoc at k m) in
    omega (arith, zero_end b at k m (omega arith))
