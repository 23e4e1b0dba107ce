-- A record's bytes: how many they are, and that writing its parts one after another leaves them. Assumes nothing.
use Prim.Native.Nat.{ℕ, zero, suc, ◌+◌, ◌-◌, ◌^◌, ◌<◌, ◌≤◌}
use mathlib.Core.Path.{◌≡◌, refl, ap, ap₂, ◌∙◌}
use mathlib.Core.List.{List, [], ◌∷◌, ◌++◌, append-nil}
use native.Mathlib.Omega.{arith}
use native.Mathlib.Nat.{zero-div, zero-mod}
use native.Mathlib.Numerals.{add-one}
use lib.ListN.{length, drop, set, get_or, replicate, length-append, length-replicate, drop_of_length-le}
use lib.Seq.{drop-cons}
use lib.Dec.{lit<}
use Rattle.fields.specs.Places.{put}
use Rattle.rules.specs.Lists.{unbe}
use Rattle.rules.specs.Messages.{field}
use Rattle.laws.proofs.Bytes.{pow_pos, length_unbe}
use Rattle.wire.specs.Fields.{head}
use Rattle.outgoing.specs.Wrote.{wrote, Says}
use Rattle.laws.proofs.Lengths.{length_field}
use Rattle.outgoing.proofs.Writing.{wrote_prefix, says_both, put_says, byte_says, field_says, number_says}
use Rattle.slots.specs.Slots.{slot_length, most_input, record_bytes}

-- zeros are the bytes of zero
zeros : (w : ℕ) → unbe w 0 ≡ replicate w 0
unfolding unbe
zeros zero = refl
zeros (suc w) = ap₂ ◌∷◌ (zero-div (256 ^ w)) (ap (unbe w) (zero-mod (256 ^ w)) ∙ zeros w)

pub length_record : (q k : ℕ) (bs : List ℕ) → length bs ≤ most_input → length (record_bytes q k bs) ≡ slot_length
unfolding record_bytes
length_record q k bs h =
    let n = most_input - length bs in
    let pad : List ℕ = replicate n 0 in
    let z : length pad ≡ n = length-replicate n 0 in
    omega (arith, length-append (field 0x20 (unbe 4 q)) (field 0x21 (k ∷ bs) ++ (pad ++ 0x5A ∷ [])), length-append (field 0x21 (k ∷ bs)) (pad ++ 0x5A ∷ []), length-append pad (0x5A ∷ []), length_field 0x20 (unbe 4 q), length_unbe 4 q, length_field 0x21 (k ∷ bs))

-- bytes copied so far, and those left
pub wrote_step : (s : List ℕ) (at k : ℕ) (bs : List ℕ) → k < length bs
    → wrote s (at + k) (drop k bs) ≡ wrote (set s (at + k) (get_or bs k 0)) (at + (k + 1)) (drop (k + 1) bs)
unfolding wrote
wrote_step s at k bs h =
    let n : suc (at + k) ≡ at + (k + 1) = omega arith in
    rw (drop-cons bs k 0 h) (rw (add-one k) (ap (λ (i : ℕ). wrote (set s (at + k) (get_or bs k 0)) i (drop (suc k) bs)) (n ∙ rw (add-one k))))

pub wrote_end : (s : List ℕ) (at k : ℕ) (bs : List ℕ) → length bs ≤ k → wrote s at (drop k bs) ≡ s
unfolding wrote
wrote_end s at k bs h = rw (drop_of_length-le bs h)

-- the parts of a record, written in their order
pub record_wrote : {s₁ s₂ s₃ s₄ s₅ s₆ s₇ : List ℕ} (s : List ℕ) (q k : ℕ) (bs : List ℕ) → length s ≡ slot_length → q < 2 ^ 32 → k < 256 → length bs ≤ most_input
    → s₁ ≡ put s 0 3 (head 0x20 4) → s₂ ≡ put s₁ 3 4 q → s₃ ≡ put s₂ 7 3 (0x21_0001 + length bs) → s₄ ≡ put s₃ 10 1 k → s₅ ≡ wrote s₄ 11 bs
    → s₆ ≡ put s₅ (11 + length bs) (most_input - length bs) 0 → s₇ ≡ put s₆ 127 1 0x5A
    → s₇ ≡ record_bytes q k bs
unfolding record_bytes unbe
record_wrote {s₁} {s₂} {s₃} {s₄} {s₅} {s₆} {s₇} s q k bs n hq hk hb e₁ e₂ e₃ e₄ e₅ e₆ e₇ =
    let l = length bs in
    let w = most_input - l in
    let first = field 0x20 (unbe 4 q) in
    let second = field 0x21 (k ∷ bs) in
    let pad : List ℕ = replicate w 0 in
    let a : Says s 0 first s₂ 7 = number_says s 0 0x20 4 q (lit< tt) (lit< tt) hq e₁ e₂ in
    let i : Says s₄ 11 bs s₅ (11 + l) = record { out = e₅; ends = refl } in
    let e : 0x21_0001 + l ≡ head 0x21 (length (k ∷ bs)) = omega arith in
    let b : Says s₂ 7 second s₅ (11 + l) = field_says s₂ 7 0x21 (k ∷ bs) (lit< tt) (omega arith) (e₃ ∙ ap (put s₂ 7 3) e) (byte_says s₃ 10 k bs hk e₄ refl i) in
    let z : Says s₅ (11 + l) (unbe w 0) s₆ 127 = put_says s₅ (11 + l) w 0 (pow_pos w) e₆ (omega arith) in
    let c : Says s₅ (11 + l) pad s₆ 127 = rw (zeros w) at z in
    let d : Says s₆ 127 (0x5A ∷ []) s₇ 128 = put_says s₆ 127 1 0x5A (lit< tt) e₇ refl in
    let all : Says s 0 (first ++ (second ++ (pad ++ 0x5A ∷ []))) s₇ 128 =
    says_both s 0 first (second ++ (pad ++ 0x5A ∷ [])) s₂ s₇ 7 128 a
    (says_both s₂ 7 second (pad ++ 0x5A ∷ []) s₅ s₇ (11 + l) 128 b (says_both s₅ (11 + l) pad (0x5A ∷ []) s₆ s₇ 127 128 c d)) in
    let len : length (first ++ (second ++ (pad ++ 0x5A ∷ []))) ≡ 128 = length_record q k bs hb in
    all.out ∙ wrote_prefix s (first ++ (second ++ (pad ++ 0x5A ∷ []))) (omega arith)
    ∙ ap ((first ++ (second ++ (pad ++ 0x5A ∷ []))) ++◌) (drop_of_length-le s {i = length (first ++ (second ++ (pad ++ 0x5A ∷ [])))} (omega arith))
    ∙ append-nil (first ++ (second ++ (pad ++ 0x5A ∷ [])))
