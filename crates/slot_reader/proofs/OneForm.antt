-- A record has one form: what is written reads back, and what reads is what is written. Assumes nothing.
use Prim.Native.Nat.{ℕ, zero, suc, ◌+◌, ◌-◌, ◌*◌, ◌^◌, ◌<◌, ◌≤◌}
use mathlib.Core.Path.{◌≡◌, refl, sym, ap, ap₂, ◌∙◌, subst}
use mathlib.Core.Bool.{Bool, true, false, ◌&&◌}
use mathlib.Core.List.{List, [], ◌∷◌, ◌++◌, append_assoc}
use native.Mathlib.Omega.{arith}
use lib.ListN.{length, take, drop, get_or, set, replicate, length-append, length-replicate}
use lib.Seq.{get_or_at, take-append_seam}
use lib.Dec.{eqb, lit<, lit≤}
use borrow.Author.Tests.{eqb-true, eq-eqb, ne_eqb}
use Rattle.rules.specs.Lists.{unbe}
use Rattle.rules.specs.Messages.{field}
use Rattle.laws.proofs.Bytes.{be_unbe, length_unbe}
use Rattle.laws.proofs.Tests.{by_bool, no_bool, eqb_self, and_left, and_right}
use Rattle.fields.specs.Places.{number, put, Bytes}
use Rattle.fields.proofs.Laws.{number_lt, bytes_put, bytes_set}
use Rattle.fields.proofs.Lists.{number_tail, number_append_left, number_append_right, bytes_take, bytes_drop, same_list_lem}
use Rattle.wire.proofs.Reading.{be_number}
use Rattle.outgoing.specs.Wrote.{wrote}
use Rattle.laws.proofs.Lengths.{length_field}
use Rattle.slots.specs.Slots.{slot_length, most_input, is_input, record_bytes, is_blank, is_ended, sequence_in, value_in, kind_in, input_in, is_record, record_in, judged, blank, torn, bad, whole}
use Rattle.slots.proofs.Inputs.{input_fits}
use Rattle.slots.proofs.Records.{length_record, record_wrote}
use Rattle.slot_reader.proofs.Judging.{chosen, sorted}

pub judged_blank : (s : List ℕ) → is_blank s ≡ true → judged s ≡ blank
unfolding judged
judged_blank s e = ap (λ (b : Bool). sorted s b (is_ended s)) e

pub judged_torn : (s : List ℕ) → is_blank s ≡ false → is_ended s ≡ false → judged s ≡ torn
unfolding judged
judged_torn s e f = ap₂ (sorted s) e f

judged_record : (s : List ℕ) → is_blank s ≡ false → is_ended s ≡ true → judged s ≡ record_in s
unfolding judged
judged_record s e f = ap₂ (sorted s) e f

chosen_is : (s : List ℕ) (x : Bool) → is_record s ≡ x → record_in s ≡ chosen s x
unfolding record_in
chosen_is s x u = ap (chosen s) u

-- a slot that is judged whole is a record, with these parts
pub whole_only : (s : List ℕ) (q k : ℕ) (bs : List ℕ) → judged s ≡ whole q k bs → (is_record s ≡ true) × (whole (sequence_in s) (kind_in s) (input_in s) ≡ whole q k bs)
whole_only s q k bs e =
    by_bool (is_blank s) (λ p. absurd (blank_whole (sym (judged_blank s p) ∙ e)))
    (λ p.
    by_bool (is_ended s)
    (λ t.
    let r = sym (judged_record s p t) ∙ e in
    by_bool (is_record s) (λ u. (u, sym (chosen_is s true u) ∙ r)) (λ u. absurd (bad_whole (sym (chosen_is s false u) ∙ r))))
    (λ t. absurd (torn_whole (sym (judged_torn s p t) ∙ e))))
  where
    blank_whole : blank ≡ whole q k bs → ⊥
    blank_whole r = let z : ◌≡◌ {A = ℕ} 0 1 = cc in omega arith

    torn_whole : torn ≡ whole q k bs → ⊥
    torn_whole r = let z : ◌≡◌ {A = ℕ} 0 1 = cc in omega arith

    bad_whole : bad ≡ whole q k bs → ⊥
    bad_whole r = let z : ◌≡◌ {A = ℕ} 0 1 = cc in omega arith

-- a slot that is judged blank is zeros
pub blank_only : (s : List ℕ) → judged s ≡ blank → is_blank s ≡ true
blank_only s e =
    by_bool (is_blank s) (λ p. p)
    (λ p.
    by_bool (is_ended s)
    (λ t.
    let r = sym (judged_record s p t) ∙ e in
    by_bool (is_record s) (λ u. absurd (whole_blank (sym (chosen_is s true u) ∙ r))) (λ u. absurd (bad_blank (sym (chosen_is s false u) ∙ r))))
    (λ t. absurd (torn_blank (sym (judged_torn s p t) ∙ e))))
  where
    whole_blank : whole (sequence_in s) (kind_in s) (input_in s) ≡ blank → ⊥
    whole_blank r = let z : ◌≡◌ {A = ℕ} 0 1 = cc in omega arith

    bad_blank : bad ≡ blank → ⊥
    bad_blank r = let z : ◌≡◌ {A = ℕ} 0 1 = cc in omega arith

    torn_blank : torn ≡ blank → ⊥
    torn_blank r = let z : ◌≡◌ {A = ℕ} 0 1 = cc in omega arith

-- where the number of some bytes is 0, so is each of them
pub zero_byte : (s : List ℕ) (w k : ℕ) → number s 0 w ≡ 0 → k < w → get_or s k 0 ≡ 0
unfolding number
zero_byte s zero k e h = absurd (omega arith)
zero_byte s (suc w) k e h =
    by_bool (eqb k w)
    (λ p.
    let q = eqb-true k w p in
    let z : get_or s (0 + w) 0 ≡ 0 = omega arith in
    ap (λ (i : ℕ). get_or s i 0) (let r : k ≡ 0 + w = omega arith in r) ∙ z)
    (λ p. zero_byte s w k (omega arith) (omega (arith, eqb_ne k w p)))
  where
    eqb_ne : (a b : ℕ) → eqb a b ≡ false → a ≡ b → ⊥
    eqb_ne a b p q = no_bool (sym (eq-eqb a b q) ∙ p)

pub not_blank : (s : List ℕ) (k x : ℕ) → k < slot_length → get_or s k 0 ≡ suc x → is_blank s ≡ false
unfolding is_blank
not_blank s k x h e = ne_eqb (number s 0 slot_length) 0 (λ z. let n = zero_byte s slot_length k z h in omega (arith, e, n))

-- ---- what is written reads back

module _ (q k : ℕ) (bs : List ℕ) (h : length bs ≤ most_input) where
  abbrev made : List ℕ
  made = record_bytes q k bs

  abbrev pad : List ℕ
  pad = replicate (most_input - length bs) 0

  pub first_byte : get_or made 0 0 ≡ 0x20
  unfolding record_bytes field
  first_byte = refl

  pub last_byte : get_or made 127 0 ≡ 0x5A
  unfolding record_bytes
  last_byte =
      let a = field 0x20 (unbe 4 q) in
      let b = field 0x21 (k ∷ bs) in
      let front = a ++ (b ++ pad) in
      let n : length front ≡ 127 = omega (arith, length-append a (b ++ pad), length-append b pad, length_field 0x20 (unbe 4 q), length_unbe 4 q, length_field 0x21 (k ∷ bs), length_pad) in
      ap (λ (l : List ℕ). get_or l 127 0) (ap (a ++◌) (sym (append_assoc b pad (0x5A ∷ []))) ∙ sym (append_assoc a (b ++ pad) (0x5A ∷ [])))
      ∙ get_or_at front 0x5A [] 0 127 n
    where
      length_pad : length pad ≡ most_input - length bs
      length_pad = length-replicate (most_input - length bs) 0

  number_unbe : (w v : ℕ) → v < 256 ^ w → number (unbe w v) 0 w ≡ v
  number_unbe w v f = ap (number (unbe w v) 0) (sym (length_unbe w v)) ∙ sym (be_number (unbe w v)) ∙ be_unbe w v f

  sequence_is : q < 2 ^ 32 → sequence_in made ≡ q
  unfolding sequence_in record_bytes field unbe
  sequence_is f =
      let rest = field 0x21 (k ∷ bs) ++ (pad ++ 0x5A ∷ []) in
      number_append_left (field 0x20 (unbe 4 q)) rest 3 4 (lit≤ tt) ∙ number_append_right (0x20 ∷ unbe 2 (length (unbe 4 q))) (unbe 4 q) 0 4 ∙ number_unbe 4 q f

  size_is : number made 8 2 ≡ suc (length bs)
  unfolding record_bytes field unbe
  size_is =
      let rest = pad ++ 0x5A ∷ [] in
      let n = suc (length bs) in
      number_append_right (field 0x20 (unbe 4 q)) (field 0x21 (k ∷ bs) ++ rest) 1 2
      ∙ number_tail 0x21 (unbe 2 n ++ ((k ∷ bs) ++ rest)) 0 2
      ∙ number_append_left (unbe 2 n) ((k ∷ bs) ++ rest) 0 2 (lit≤ tt) ∙ number_unbe 2 n (omega arith)

  tail_is : take (suc (length bs)) (drop 10 made) ≡ k ∷ bs
  unfolding record_bytes field unbe
  tail_is = ap (k ∷◌) (take-append_seam bs (pad ++ 0x5A ∷ []))

  value_is : value_in made ≡ k ∷ bs
  unfolding value_in
  value_is = ap (λ (n : ℕ). take n (drop 10 made)) size_is ∙ tail_is

  kind_is : kind_in made ≡ k
  unfolding kind_in
  kind_is = ap (λ (l : List ℕ). get_or l 0 0) value_is

  input_is : input_in made ≡ bs
  unfolding input_in
  input_is = ap (drop 1) value_is

  module _ (i : is_input k bs ≡ true) (f : q < 2 ^ 32) where
    is_record_lem : is_record made ≡ true
    unfolding is_record
    is_record_lem =
        ap₂ (λ (x : ℕ) (y : List ℕ). is_input x y && eqb (number made 0 slot_length) (number (record_bytes (sequence_in made) x y) 0 slot_length)) kind_is input_is
        ∙ ap₂ (λ (x : Bool) (y : ℕ). x && eqb (number made 0 slot_length) (number (record_bytes y k bs) 0 slot_length)) i (sequence_is f)
        ∙ eqb_self (number made 0 slot_length)

    record_read : record_in made ≡ whole q k bs
    unfolding record_in
    record_read =
        ap (chosen made) is_record_lem ∙ ap₂ (λ (x y : ℕ). whole x y (input_in made)) (sequence_is f) kind_is ∙ ap (whole q k) input_is

    ended_is : is_ended made ≡ true
    unfolding is_ended
    ended_is = eq-eqb (get_or made 127 0) 0x5A last_byte

    pub reads_back : judged made ≡ whole q k bs
    reads_back = judged_record made (not_blank made 0 0x1F (lit< tt) first_byte) ended_is ∙ record_read

-- ---- what reads is what is written

bytes_wrote : (s : List ℕ) → Bytes s → (at : ℕ) (bs : List ℕ) → Bytes bs → Bytes (wrote s at bs)
unfolding wrote
bytes_wrote s b at [] c = b
bytes_wrote s b at (x ∷ bs) c = bytes_wrote (set s at x) (bytes_set s b at x (c 0).fits) (suc at) bs (λ i. c (suc i))

-- a record is bytes
bytes_record : (s : List ℕ) → Bytes s → length s ≡ slot_length → (q k : ℕ) (bs : List ℕ) → q < 2 ^ 32 → k < 256 → length bs ≤ most_input → Bytes bs → Bytes (record_bytes q k bs)
bytes_record s b n q k bs hq hk hb c =
    let s₁ = put s 0 3 (0x20 * 65_536 + 4) in
    let s₂ = put s₁ 3 4 q in
    let s₃ = put s₂ 7 3 (0x21_0001 + length bs) in
    let s₄ = put s₃ 10 1 k in
    let s₅ = wrote s₄ 11 bs in
    let s₆ = put s₅ (11 + length bs) (most_input - length bs) 0 in
    let s₇ = put s₆ 127 1 0x5A in
    let b₁ = bytes_put s b 0 3 (0x20 * 65_536 + 4) in
    let b₄ = bytes_put s₃ (bytes_put s₂ (bytes_put s₁ b₁ 3 4 q) 7 3 (0x21_0001 + length bs)) 10 1 k in
    let b₇ = bytes_put s₆ (bytes_put s₅ (bytes_wrote s₄ b₄ 11 bs c) (11 + length bs) (most_input - length bs) 0) 127 1 0x5A in
    subst Bytes (record_wrote {s₁ = s₁} {s₂ = s₂} {s₃ = s₃} {s₄ = s₄} {s₅ = s₅} {s₆ = s₆} {s₇ = s₇} s q k bs n hq hk hb refl refl refl refl refl refl refl) b₇

module _ (s : List ℕ) (b : Bytes s) (n : length s ≡ slot_length) where
  small : sequence_in s < 2 ^ 32
  unfolding sequence_in
  small = number_lt s b 3 4

  input_bytes : Bytes (input_in s)
  unfolding input_in value_in
  input_bytes = bytes_drop (take (number s 8 2) (drop 10 s)) (bytes_take (drop 10 s) (bytes_drop s b 10) (number s 8 2)) 1

  record_only : is_record s ≡ true → s ≡ record_bytes (sequence_in s) (kind_in s) (input_in s)
  unfolding is_record
  record_only t =
      let r = record_bytes (sequence_in s) (kind_in s) (input_in s) in
      let same = eqb (number s 0 slot_length) (number r 0 slot_length) in
      let f = input_fits (kind_in s) (input_in s) (and_left (is_input (kind_in s) (input_in s)) same t) in
      let e = eqb-true (number s 0 slot_length) (number r 0 slot_length) (and_right (is_input (kind_in s) (input_in s)) same t) in
      let l : length r ≡ slot_length = length_record (sequence_in s) (kind_in s) (input_in s) f.1 in
      same_list_lem s r b (bytes_record s b n (sequence_in s) (kind_in s) (input_in s) small f.0 f.1 input_bytes) (n ∙ sym l)
      (ap (number s 0) n ∙ e ∙ ap (number r 0) (sym l))

  -- a slot that holds a whole record is that record's bytes, and no others
  pub one_form : (q k : ℕ) (bs : List ℕ) → judged s ≡ whole q k bs → s ≡ record_bytes q k bs
  one_form q k bs e = let w = whole_only s q k bs e in record_only w.0 ∙ parts w.1
    where
      parts : whole (sequence_in s) (kind_in s) (input_in s) ≡ whole q k bs → record_bytes (sequence_in s) (kind_in s) (input_in s) ≡ record_bytes q k bs
      parts r = cc
