-- Writing into a buffer: one writer after another, numbers and fields, and what a prefix leaves. Assumes nothing.
use Prim.Native.Nat.{ℕ, zero, suc, ◌+◌, ◌*◌, ◌/◌, ◌%◌, ◌^◌, ◌<◌, ◌≤◌}
use mathlib.Core.Path.{◌≡◌, refl, sym, ap, ap₂, ◌∙◌, subst}
use mathlib.Core.List.{List, [], ◌∷◌, ◌++◌, append_assoc, append-nil}
use native.Mathlib.Omega.{arith}
use native.Mathlib.Nat.{add-zero, add-suc, suc-add, mod-lt, mod-eq_of_lt, div-one, div-add-mod', div-lt_iff_lt-mul, mul_comm, pow-suc}
use native.Mathlib.Numerals.{add-one}
use lib.ListN.{length, drop, set, length-set, length-append}
use lib.Seq.{set-append_seam}
use lib.Arith.{digits_div, digits_mod}
use lib.Dec.{lit<}
use Rattle.fields.specs.Places.{put}
use Rattle.fields.proofs.Laws.{put_both, put_comm}
use Rattle.rules.specs.Lists.{unbe}
use Rattle.rules.specs.Messages.{Message, field, width, tags_of, kind, values, writes, write, size, Effect, to_all, to_one, committed, effect, outgoing}
use Rattle.laws.proofs.Bytes.{pow_pos, length_unbe}
use Rattle.laws.proofs.Lengths.{length_field, length_write, size_most, length_effect, weight}
use Rattle.wire.specs.Fields.{head}
use Rattle.outgoing.specs.Wrote.{wrote, Says, SaysFields}

pub length_wrote : (o : List ℕ) (at : ℕ) (bs : List ℕ) → length (wrote o at bs) ≡ length o
unfolding wrote
length_wrote o at [] = refl
length_wrote o at (b ∷ bs) = length_wrote (set o at b) (suc at) bs ∙ length-set o at b

pub wrote_append : (o : List ℕ) (at : ℕ) (xs ys : List ℕ) → wrote o at (xs ++ ys) ≡ wrote (wrote o at xs) (at + length xs) ys
unfolding wrote
wrote_append o at [] ys = rw add-zero
wrote_append o at (x ∷ xs) ys =
    wrote_append (set o at x) (suc at) xs ys
    ∙ ap (λ (k : ℕ). wrote (wrote (set o at x) (suc at) xs) k ys) (suc-add at (length xs) ∙ sym (add-suc at (length xs)))

-- from the start on: what is written, and behind it what was there
wrote_from : (p o bs : List ℕ) → length bs ≤ length o → wrote (p ++ o) (length p) bs ≡ p ++ bs ++ drop (length bs) o
unfolding wrote
wrote_from p o [] h = sym (append_assoc p [] o)
wrote_from p [] (b ∷ bs) h = absurd (omega arith)
wrote_from p (x ∷ o) (b ∷ bs) h =
    let n : length (p ++ b ∷ []) ≡ suc (length p) = length-append p (b ∷ []) ∙ omega arith in
    ap (λ (l : List ℕ). wrote l (suc (length p)) bs) (set-append_seam p x o b ∙ sym (append_assoc p (b ∷ []) o))
    ∙ ap (λ (k : ℕ). wrote ((p ++ b ∷ []) ++ o) k bs) (sym n)
    ∙ wrote_from (p ++ b ∷ []) o bs (omega arith)
    ∙ ap (◌++ drop (length bs) o) (append_assoc p (b ∷ []) bs)

pub wrote_prefix : (o bs : List ℕ) → length bs ≤ length o → wrote o 0 bs ≡ bs ++ drop (length bs) o
wrote_prefix o bs h = wrote_from [] o bs h

-- ---- one writer after another

pub says_none : (o : List ℕ) (at : ℕ) → Says o at [] o at
unfolding wrote
says_none o at = record { out = refl; ends = omega arith }

pub says_both : (o : List ℕ) (at : ℕ) (xs ys o₁ o₂ : List ℕ) (r₁ r₂ : ℕ) → Says o at xs o₁ r₁ → Says o₁ r₁ ys o₂ r₂ → Says o at (xs ++ ys) o₂ r₂
says_both o at xs ys o₁ o₂ r₁ r₂ p q =
    record {
      out = q.out ∙ ap₂ (λ (l : List ℕ) (k : ℕ). wrote l k ys) p.out p.ends ∙ sym (wrote_append o at xs ys);
      ends = omega (arith, p.ends, q.ends, length-append xs ys);
    }

-- a writer keeps the buffer's length
pub says_length : {o : List ℕ} {at : ℕ} {bs left : List ℕ} {end : ℕ} → Says o at bs left end → length left ≡ length o
says_length {o} {at} {bs} p = ap length p.out ∙ length_wrote o at bs

-- no fields of a message; a field, and those after it; some fields, and others after them
pub no_fields : {o : List ℕ} {at : ℕ} → SaysFields o at [] [] o at
unfolding writes
no_fields {o} {at} = record { says = says_none o at; even = refl }

pub first_field : {o : List ℕ} {at t v : ℕ} {ts vs o₁ o₂ : List ℕ} {r₁ r₂ : ℕ} → Says o at (field t (unbe (width t) v)) o₁ r₁ → SaysFields o₁ r₁ ts vs o₂ r₂
    → SaysFields o at (t ∷ ts) (v ∷ vs) o₂ r₂
unfolding writes
first_field {o} {at} {t} {v} {ts} {vs} {o₁} {o₂} {r₁} {r₂} p q =
    record { says = says_both o at (field t (unbe (width t) v)) (writes ts vs) o₁ o₂ r₁ r₂ p q.says; even = ap suc q.even }

-- a field whose width is that of its tag
pub last_field : {o : List ℕ} {at t v w : ℕ} {o₁ : List ℕ} {r₁ : ℕ} → w ≡ width t → Says o at (field t (unbe w v)) o₁ r₁ → SaysFields o at (t ∷ []) (v ∷ []) o₁ r₁
last_field {o} {at} {t} {v} {w} {o₁} {r₁} e p = first_field (subst (λ (i : ℕ). Says o at (field t (unbe i v)) o₁ r₁) e p) no_fields

writes_append : (ts us vs ws : List ℕ) → length ts ≡ length vs → writes (ts ++ us) (vs ++ ws) ≡ writes ts vs ++ writes us ws
unfolding writes
writes_append [] us [] ws h = refl
writes_append [] us (v ∷ vs) ws h = absurd (omega arith)
writes_append (t ∷ ts) us [] ws h = absurd (omega arith)
writes_append (t ∷ ts) us (v ∷ vs) ws h =
    ap (field t (unbe (width t) v) ++◌) (writes_append ts us vs ws (omega arith)) ∙ sym (append_assoc (field t (unbe (width t) v)) (writes ts vs) (writes us ws))

pub fields_both : {o : List ℕ} {at : ℕ} {ts us vs ws o₁ o₂ : List ℕ} {r₁ r₂ : ℕ} → SaysFields o at ts vs o₁ r₁ → SaysFields o₁ r₁ us ws o₂ r₂
    → SaysFields o at (ts ++ us) (vs ++ ws) o₂ r₂
fields_both {o} {at} {ts} {us} {vs} {ws} {o₁} {o₂} {r₁} {r₂} p q =
    record {
      says = rw (writes_append ts us vs ws p.even) (says_both o at (writes ts vs) (writes us ws) o₁ o₂ r₁ r₂ p.says q.says);
      even = length-append ts us ∙ ap₂ ◌+◌ p.even q.even ∙ sym (length-append vs ws);
    }

-- the fields of a message are the message
pub message_says : {o left : List ℕ} {at end : ℕ} (m : Message) → SaysFields o at (1 ∷ tags_of (kind m)) (kind m ∷ values m) left end → Says o at (write m) left end
unfolding write
message_says m p = p.says

-- what is said, and what is said after it
pub outgoing_append : (a b : List Effect) → outgoing (a ++ b) ≡ outgoing a ++ outgoing b
unfolding outgoing
outgoing_append [] b = refl
outgoing_append (e ∷ a) b = ap (effect e ++◌) (outgoing_append a b) ∙ sym (append_assoc (effect e) (outgoing a) (outgoing b))

pub outgoing_one : (e : Effect) → outgoing (e ∷ []) ≡ effect e
unfolding outgoing
outgoing_one e = append-nil (effect e)

pub says_outgoing : (o : List ℕ) (at : ℕ) (a b : List Effect) (o₁ o₂ : List ℕ) (r₁ r₂ : ℕ) → Says o at (outgoing a) o₁ r₁ → Says o₁ r₁ (outgoing b) o₂ r₂
    → Says o at (outgoing (a ++ b)) o₂ r₂
says_outgoing o at a b o₁ o₂ r₁ r₂ p q = rw outgoing_append (says_both o at (outgoing a) (outgoing b) o₁ o₂ r₁ r₂ p q)

pub says_one : (o : List ℕ) (at : ℕ) (e : Effect) (o₁ : List ℕ) (r : ℕ) → Says o at (effect e) o₁ r → Says o at (outgoing (e ∷ [])) o₁ r
says_one o at e o₁ r p = rw outgoing_one p

-- ---- numbers and fields

-- a number put is its bytes written
pub put_wrote : (s : List ℕ) (at w v : ℕ) → v < 256 ^ w → put s at w v ≡ wrote s at (unbe w v)
unfolding put wrote unbe
put_wrote s at zero v h = refl
put_wrote s at (suc w) v h =
    let d = v / 256 ^ w in
    let l = v % 256 ^ w in
    let n : suc w ≡ 1 + w = omega arith in
    let e : d * 256 ^ w + l ≡ v = div-add-mod' v (256 ^ w) in
    let small : d < 256 = (div-lt_iff_lt-mul {x = v} {y = 256} (pow_pos w)).1 (rw (mul_comm 256) (rw pow-suc at h)) in
    ap₂ (put s at) n (sym e) ∙ put_both s at 1 w d l (mod-lt v (pow_pos w)) ∙ sym (put_comm s at 1 d (at + 1) w l (omega arith))
    ∙ rw (add-zero, mod-eq_of_lt small, add-one) (put_wrote (set s at d) (suc at) w l (mod-lt v (pow_pos w)))

pub put_says : {s₁ : List ℕ} {end : ℕ} (s : List ℕ) (at w v : ℕ) → v < 256 ^ w → s₁ ≡ put s at w v → end ≡ at + w → Says s at (unbe w v) s₁ end
put_says s at w v h e q = record { out = e ∙ put_wrote s at w v h; ends = omega (arith, length_unbe w v) }

-- a byte, and whoever writes after it
pub byte_says : {s₁ left : List ℕ} {next end : ℕ} (s : List ℕ) (at i : ℕ) (bs : List ℕ) → i < 256 → s₁ ≡ put s at 1 i → next ≡ at + 1 → Says s₁ next bs left end
    → Says s at (i ∷ bs) left end
unfolding unbe
byte_says {s₁} {left} {next} {end} s at i bs h e q p =
    let b : Says s at (i ∷ []) s₁ next = rw (div-one i) at (put_says s at 1 i h e q) in
    says_both s at (i ∷ []) bs s₁ left next end b p

-- the head of a field, put as one number
head_bytes : (t n : ℕ) → n < 65536 → unbe 3 (head t n) ≡ t ∷ unbe 2 n
unfolding unbe
head_bytes t n h = rw (digits_div t h, digits_mod t h)

-- a field: its head, and whoever writes its value
pub field_says : {s₁ left : List ℕ} {end : ℕ} (s : List ℕ) (at t : ℕ) (bs : List ℕ) → t < 256 → length bs < 65536 → s₁ ≡ put s at 3 (head t (length bs)) → Says s₁ (at + 3) bs left end
    → Says s at (field t bs) left end
unfolding field
field_says {s₁} {left} {end} s at t bs h k e p =
    let n = length bs in
    let b : Says s at (t ∷ unbe 2 n) s₁ (at + 3) = rw (head_bytes t n k) at (put_says s at 3 (head t n) (omega arith) e refl) in
    says_both s at (t ∷ unbe 2 n) bs s₁ left (at + 3) end b p

pub number_says : {s₁ s₂ : List ℕ} (s : List ℕ) (at t w v : ℕ) → t < 256 → w < 65536 → v < 256 ^ w → s₁ ≡ put s at 3 (head t w) → s₂ ≡ put s₁ (at + 3) w v
    → Says s at (field t (unbe w v)) s₂ (at + 3 + w)
number_says {s₁} s at t w v h k f p q =
    let l = length_unbe w v in
    field_says s at t (unbe w v) h (omega arith) (rw l p) (put_says s₁ (at + 3) w v f q refl)

-- a committed block
pub committed_says : {s₁ s₂ s₃ : List ℕ} (s : List ℕ) (at h b : ℕ) → h < 256 ^ 4 → b < 256 ^ 32 → s₁ ≡ put s at 3 (head 0x12 36) → s₂ ≡ put s₁ (at + 3) 4 h → s₃ ≡ put s₂ (at + 7) 32 b
    → Says s at (effect (committed h b)) s₃ (at + 39)
unfolding effect
committed_says {s₁} {s₂} {s₃} s at h b f g p q r =
    let l : length (unbe 4 h ++ unbe 32 b) ≡ 36 = omega (arith, length-append (unbe 4 h) (unbe 32 b), length_unbe 4 h, length_unbe 32 b) in
    field_says s at 0x12 (unbe 4 h ++ unbe 32 b) (lit< tt) (omega arith) (p ∙ ap (λ (n : ℕ). put s at 3 (head 0x12 n)) (sym l))
    (says_both s₁ (at + 3) (unbe 4 h) (unbe 32 b) s₂ s₃ (at + 7) (at + 39) (put_says s₁ (at + 3) 4 h f q (omega arith)) (put_says s₂ (at + 7) 32 b g r (omega arith)))

-- ---- lengths

pub length_write_most : (m : Message) → length (write m) ≤ 97
length_write_most m = omega (arith, length_write m, size_most m)

-- the room for a message, by its kind
pub room_of_lem : {m k : Message} (a n : ℕ) → m ≡ k → a + length (write m) ≤ n → a + size k ≤ n
room_of_lem {m} {k} a n e h = let l : length (write m) ≡ size k = ap (λ (x : Message). length (write x)) e ∙ length_write k in omega arith

pub length_to_all : (m : Message) → length (effect (to_all m)) ≡ 3 + length (write m)
unfolding effect
length_to_all m = length_field 0x10 (write m)

pub length_to_one : (i : ℕ) (m : Message) → length (effect (to_one i m)) ≡ 4 + length (write m)
unfolding effect
length_to_one i m = omega (arith, length_field 0x11 (i ∷ write m))

pub length_committed : (h b : ℕ) → length (effect (committed h b)) ≡ 39
unfolding weight
length_committed h b = length_effect (committed h b)
