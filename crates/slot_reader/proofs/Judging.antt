-- Judging a slot by its places is what the slot holds. Assumes nothing.
use Prim.Native.Nat.{ℕ, suc, ◌-◌, ◌^◌, ◌<◌, ◌≤◌}
use mathlib.Core.Path.{◌≡◌, sym, ap, ap₂, ◌∙◌}
use mathlib.Core.Bool.{Bool, true, false, ◌&&◌}
use mathlib.Core.List.{List, ◌∷◌}
use native.Mathlib.Omega.{arith}
use lib.ListN.{length, take, drop, get_or, length-take, length-drop}
use lib.Seq.{drop-cons}
use lib.Dec.{eqb}
use denote.Bor.{Bor}
use borrow.Author.Tests.{eq-eqb, ne_eqb}
use Rattle.fields.specs.Places.{number}
use Rattle.slots.specs.Slots as slots
use Rattle.slots.specs.Slots.{slot_length, most_input, is_input, record_bytes, is_blank, is_ended, sequence_in, value_in, kind_in, input_in, is_record, record_in, judged, blank, torn, bad, whole}
use Rattle.slot_reader.specs.Meaning.{input_place, slot_of, Judged}
use Rattle.slot_reader.specs.declared.Slot.{Slot}
use Rattle.slot_reader.specs.declared.Slot.TheVariants.{Blank, Torn, Bad, Whole}
use Rattle.slots.proofs.Inputs.{too_long, other_input}

-- a slot ending in 5A, by its test; a slot, by its two tests
abbrev pub chosen : List ℕ → Bool → slots.Slot
chosen s b = elim b [ false ↦ bad | true ↦ whole (sequence_in s) (kind_in s) (input_in s) ]

abbrev pub sorted : List ℕ → Bool → Bool → slots.Slot
sorted s b c = elim b [ true ↦ blank | false ↦ elim c [ false ↦ torn | true ↦ record_in s ] ]

-- a slot whose input isn't one is bad
no_record : (s : List ℕ) → is_input (kind_in s) (input_in s) ≡ false → record_in s ≡ bad
unfolding record_in is_record
no_record s e =
    ap (λ (b : Bool). chosen s (b && eqb (number s 0 slot_length) (number (record_bytes (sequence_in s) (kind_in s) (input_in s)) 0 slot_length))) e

judged_bad : {held : slots.Slot} → held ≡ bad → Judged held Bad
unfolding slot_of
judged_bad e = record { is = sym e; within = tt }

-- a length of 0 leaves no kind
pub no_kind : (s : List ℕ) {z : ℕ} → z ≡ number s 8 2 → z ≡ 0 → Judged (record_in s) Bad
unfolding kind_in value_in
no_kind s e d =
    let n : number s 8 2 ≡ 0 = sym e ∙ d in
    let k : kind_in s ≡ 0 = ap (λ (x : ℕ). get_or (take x (drop 10 s)) 0 0) n in
    judged_bad (no_record s (ap (λ (x : ℕ). is_input x (input_in s)) k ∙ sym (other_input 0 (input_in s) (λ p. omega arith) (λ p. omega arith) (λ p. omega arith))))

-- a length that the slot has no room for
pub no_room : (s : List ℕ) → length s ≡ slot_length → {z : ℕ} → z ≡ number s 8 2 → most_input < z - 1 → Judged (record_in s) Bad
unfolding input_in value_in
no_room s n {z} e h =
    let v = take (number s 8 2) (drop 10 s) in
    let b : length (drop 10 s) ≡ 118 = length-drop 10 s ∙ omega arith in
    let a : length v ≡ 118 = length-take (number s 8 2) (drop 10 s) ∙ omega arith in
    let l : most_input < length (input_in s) = rw (length-drop 1 v) (omega arith) in
    judged_bad (no_record s (sym (too_long (kind_in s) (input_in s) l)))

-- the kind and the input that the slot's length tells
module _ (s : List ℕ) (n : length s ≡ slot_length) (l : ℕ) (e : number s 8 2 ≡ suc l) where
  value_is : value_in s ≡ get_or s 10 0 ∷ take l (drop input_place s)
  unfolding value_in
  value_is = ap (λ (x : ℕ). take x (drop 10 s)) e ∙ ap (take (suc l)) (drop-cons s 10 0 (omega arith))

  kind_is : kind_in s ≡ number s 10 1
  unfolding kind_in number
  kind_is = ap (λ (v : List ℕ). get_or v 0 0) value_is ∙ omega arith

  input_is : input_in s ≡ take l (drop input_place s)
  unfolding input_in
  input_is = ap (drop 1) value_is

  is_record_lem : (q : ℕ) → q ≡ number s 3 4
      → is_record s
      ≡ (is_input (number s 10 1) (take l (drop input_place s)) && eqb (number s 0 slot_length) (number (record_bytes q (number s 10 1) (take l (drop input_place s))) 0 slot_length))
  unfolding is_record sequence_in
  is_record_lem q f =
      ap₂ (λ (x : ℕ) (y : List ℕ). is_input x y && eqb (number s 0 slot_length) (number (record_bytes (number s 3 4) x y) 0 slot_length)) kind_is input_is
      ∙ ap (λ (x : ℕ). is_input (number s 10 1) (take l (drop input_place s)) && eqb (number s 0 slot_length) (number (record_bytes x (number s 10 1) (take l (drop input_place s))) 0 slot_length)) (sym f)

-- the same as the code has read them
module _ (s : List ℕ) (n : length s ≡ slot_length) {z k m : ℕ} {i : Bool} (e : z ≡ number s 8 2) (d : z ≡ 0 → ⊥) (f : k ≡ number s 10 1)
    (t : i ≡ is_input k (take m (drop input_place s))) (g : m ≡ z - 1) where
  size : number s 8 2 ≡ suc (z - 1)
  size = omega arith

  test : is_input (number s 10 1) (take (z - 1) (drop input_place s)) ≡ i
  test = ap₂ (λ (x y : ℕ). is_input x (take y (drop input_place s))) (sym f) (sym g) ∙ sym t

  pub no_input : i ≡ false → Judged (record_in s) Bad
  no_input u = judged_bad (no_record s (ap₂ is_input (kind_is s n (z - 1) size) (input_is s n (z - 1) size) ∙ test ∙ u))

  module _ {q j : ℕ} {r : Bool} (o : q ≡ number s 3 4) (w : r ≡ eqb (number s 0 slot_length) (number (record_bytes q k (take j (drop input_place s))) 0 slot_length)) (c : j ≡ z - 1) (u : i ≡ true) where
    compared : is_record s ≡ r
    compared =
        is_record_lem s n (z - 1) size q o
        ∙ ap₂ (λ (x y : Bool). x && y) (test ∙ u)
        (ap₂ (λ (x y : ℕ). eqb (number s 0 slot_length) (number (record_bytes q x (take y (drop input_place s))) 0 slot_length)) (sym f) (sym c) ∙ sym w)

    pub not_same : r ≡ false → Judged (record_in s) Bad
    unfolding record_in
    not_same v = judged_bad (ap (chosen s) (compared ∙ v))

    pub is_whole : {i : Bor (List ℕ)} → i.now ≡ take j (drop input_place s) → r ≡ true → z - 1 ≤ most_input → q < 2 ^ 32 → Judged (record_in s) (Whole q k i)
    unfolding record_in slot_of sequence_in
    is_whole p v h b =
        let same = p ∙ ap (λ (x : ℕ). take x (drop input_place s)) c in
        let parts : whole q k (take (z - 1) (drop input_place s)) ≡ whole (sequence_in s) (kind_in s) (input_in s) =
        ap₂ (λ (x : ℕ) (y : List ℕ). whole x k y) o (sym (input_is s n (z - 1) size)) ∙ ap (λ (x : ℕ). whole (number s 3 4) x (input_in s)) (f ∙ sym (kind_is s n (z - 1) size)) in
        record {
          is = ap (whole q k) same ∙ parts ∙ sym (ap (chosen s) (compared ∙ v));
          within = (omega (arith, ap length same, length-take (z - 1) (drop input_place s)), b);
        }

-- the whole slot
module _ (s : List ℕ) {r : Bool} (e : r ≡ eqb (number s 0 slot_length) 0) where
  blank_test : is_blank s ≡ r
  unfolding is_blank
  blank_test = sym e

  pub is_blank_lem : r ≡ true → Judged (judged s) Blank
  unfolding judged slot_of
  is_blank_lem t = record { is = sym (ap (λ (b : Bool). sorted s b (is_ended s)) (blank_test ∙ t)); within = tt }

  pub is_torn : r ≡ false → (get_or s 127 0 ≡ 0x5A → ⊥) → Judged (judged s) Torn
  unfolding judged is_ended slot_of
  is_torn t d = record { is = sym (ap₂ (sorted s) (blank_test ∙ t) (ne_eqb (get_or s 127 0) 0x5A d)); within = tt }

  pub is_ended_lem : {x : Slot} → r ≡ false → get_or s 127 0 ≡ 0x5A → Judged (record_in s) x → Judged (judged s) x
  unfolding judged is_ended
  is_ended_lem t d j = record { is = j.is ∙ sym (ap₂ (sorted s) (blank_test ∙ t) (eq-eqb (get_or s 127 0) 0x5A d)); within = j.within }
