-- The laws of records, once for every format. Assumes nothing.
use Prim.Native.Nat.{ℕ, ◌+◌, ◌<◌, ◌≤◌}
use mathlib.Core.Path.{◌≡◌, refl, ap₂, ◌∙◌}
use mathlib.Core.List.{List, [], ◌∷◌}
use native.Mathlib.Omega.{arith}
use native.Mathlib.Nat.{add_assoc}
use lib.Dec.{leb→le}
use lib.ListN.{length, get_or}
use Rattle.fields.specs.Places.{Bytes, number, put}
use Rattle.fields.specs.Records.{Format, fields, puts, Ordered, Fit}
use Rattle.fields.proofs.Laws.{number_ext, number_lt, number_put_same, number_put_before, number_put_after, length_put, bytes_put, put_number}

-- a record ends no earlier than it begins
pub ordered_le : (o : ℕ) (fs : Format) (e : ℕ) → Ordered o fs e → o ≤ e
ordered_le o [] e h = leb→le o e h
ordered_le o (f ∷ fs) e h = omega (arith, leb→le o f.0 h.0, ordered_le (f.0 + f.1) fs e h.1)

pub length_puts : (s : List ℕ) (at : ℕ) (fs : Format) (vs : List ℕ) → length (puts s at fs vs) ≡ length s
length_puts s at [] vs = refl
length_puts s at (f ∷ fs) [] = refl
length_puts s at (f ∷ fs) (v ∷ vs) = length_puts (put s (at + f.0) f.1 v) at fs vs ∙ length_put s (at + f.0) f.1 v

pub bytes_puts : (s : List ℕ) → Bytes s → (at : ℕ) (fs : Format) (vs : List ℕ) → Bytes (puts s at fs vs)
bytes_puts s b at [] vs = b
bytes_puts s b at (f ∷ fs) [] = b
bytes_puts s b at (f ∷ fs) (v ∷ vs) = bytes_puts (put s (at + f.0) f.1 v) (bytes_put s b (at + f.0) f.1 v) at fs vs

-- a number after the record, or before it, is as it was
pub number_puts_before : (s : List ℕ) (at o e : ℕ) (fs : Format) (vs : List ℕ) (bt x : ℕ) → Ordered o fs e → at + e ≤ bt → number (puts s at fs vs) bt x ≡ number s bt x
number_puts_before s at o e [] vs bt x h l = refl
number_puts_before s at o e (f ∷ fs) [] bt x h l = refl
number_puts_before s at o e (f ∷ fs) (v ∷ vs) bt x h l =
    let k = ordered_le (f.0 + f.1) fs e h.1 in
    number_puts_before (put s (at + f.0) f.1 v) at (f.0 + f.1) e fs vs bt x h.1 l ∙ number_put_before s (at + f.0) f.1 v bt x (omega arith)

pub number_puts_after : (s : List ℕ) (at o e : ℕ) (fs : Format) (vs : List ℕ) (bt x : ℕ) → Ordered o fs e → bt + x ≤ at + o → number (puts s at fs vs) bt x ≡ number s bt x
number_puts_after s at o e [] vs bt x h l = refl
number_puts_after s at o e (f ∷ fs) [] bt x h l = refl
number_puts_after s at o e (f ∷ fs) (v ∷ vs) bt x h l =
    let k = leb→le o f.0 h.0 in
    number_puts_after (put s (at + f.0) f.1 v) at (f.0 + f.1) e fs vs bt x h.1 (omega arith) ∙ number_put_after s (at + f.0) f.1 v bt x (omega arith)

-- what was written is read
pub fields_puts : (s : List ℕ) (at o e : ℕ) (fs : Format) (vs : List ℕ) → Ordered o fs e → at + e ≤ length s → Fit fs vs → fields (puts s at fs vs) at fs ≡ vs
fields_puts s at o e [] [] h l p = refl
fields_puts s at o e [] (v ∷ vs) h l p = absurd p
fields_puts s at o e (f ∷ fs) [] h l p = absurd p
fields_puts s at o e (f ∷ fs) (v ∷ vs) h l p =
    let s' = put s (at + f.0) f.1 v in
    let k = ordered_le (f.0 + f.1) fs e h.1 in
    let n = length_put s (at + f.0) f.1 v in
    ap₂ ◌∷◌ (number_puts_after s' at (f.0 + f.1) e fs vs (at + f.0) f.1 h.1 (omega arith) ∙ number_put_same s (at + f.0) f.1 v (omega arith) p.0)
    (fields_puts s' at (f.0 + f.1) e fs vs h.1 (omega arith) p.1)

-- what was read, written back, changes nothing
pub puts_fields : (s : List ℕ) → Bytes s → (at : ℕ) (fs : Format) → puts s at fs (fields s at fs) ≡ s
puts_fields s b at [] = refl
puts_fields s b at (f ∷ fs) = rw (put_number s b (at + f.0) f.1) (puts_fields s b at fs)

-- what is read fits
pub fit_fields : (s : List ℕ) → Bytes s → (at : ℕ) (fs : Format) → Fit fs (fields s at fs)
fit_fields s b at [] = tt
fit_fields s b at (f ∷ fs) = (number_lt s b (at + f.0) f.1, fit_fields s b at fs)

-- a record goes by its bytes alone
pub fields_ext : (s t : List ℕ) (at bt o e : ℕ) (fs : Format) → Ordered o fs e
    → ((k : ℕ) → o ≤ k → k < e → get_or s (at + k) 0 ≡ get_or t (bt + k) 0) → fields s at fs ≡ fields t bt fs
fields_ext s t at bt o e [] h g = refl
fields_ext s t at bt o e (f ∷ fs) h g =
    let p = leb→le o f.0 h.0 in
    let q = ordered_le (f.0 + f.1) fs e h.1 in
    ap₂ ◌∷◌ (number_ext s t (at + f.0) (bt + f.0) f.1 (λ k l. simp add_assoc (g (f.0 + k) (omega arith) (omega arith))))
    (fields_ext s t at bt (f.0 + f.1) e fs h.1 (λ k l m. g k (omega arith) m))

-- a record is as it was after a write before it, or after it
pub fields_put_before : (s : List ℕ) (at w v bt o e : ℕ) (fs : Format) → Ordered o fs e → at + w ≤ bt + o → fields (put s at w v) bt fs ≡ fields s bt fs
fields_put_before s at w v bt o e [] h l = refl
fields_put_before s at w v bt o e (f ∷ fs) h l =
    let k = leb→le o f.0 h.0 in
    ap₂ ◌∷◌ (number_put_before s at w v (bt + f.0) f.1 (omega arith)) (fields_put_before s at w v bt (f.0 + f.1) e fs h.1 (omega arith))

pub fields_put_after : (s : List ℕ) (at w v bt o e : ℕ) (fs : Format) → Ordered o fs e → bt + e ≤ at → fields (put s at w v) bt fs ≡ fields s bt fs
fields_put_after s at w v bt o e [] h l = refl
fields_put_after s at w v bt o e (f ∷ fs) h l =
    let k = ordered_le (f.0 + f.1) fs e h.1 in
    ap₂ ◌∷◌ (number_put_after s at w v (bt + f.0) f.1 (omega arith)) (fields_put_after s at w v bt (f.0 + f.1) e fs h.1 l)
