-- Slots of a journal after one of them was replaced. Assumes nothing.
use Prim.Native.Nat.{ℕ, zero, suc, ◌+◌, ◌-◌, ◌*◌, ◌/◌, ◌<◌, ◌≤◌}
use mathlib.Core.Path.{◌≡◌, refl, sym, ap, ap₂, ◌∙◌}
use mathlib.Core.List.{List, ◌∷◌, ◌++◌, append_assoc}
use native.Mathlib.Omega.{arith}
use native.Mathlib.Nat.{add-zero, suc-add}
use lib.ListN.{length, take, drop, length-append, length-drop, take-append-drop}
use lib.Seq.{length-take-le, take_at, drop_at, drop-append-le, take-append-le, drop-append-add, drop-drop}
use Rattle.slots.specs.Slots.{slot_length, judged}
use Rattle.journal.specs.Journal.{slot_count, slot_at, with_slot, slots_from}

-- a slot's place lies within the journal
pub slot_within : (j : List ℕ) (p : ℕ) → p < slot_count j → p * slot_length + slot_length ≤ length j
unfolding slot_count
slot_within j p h = omega (arith, h)

pub length_slot : (j : List ℕ) (p : ℕ) → p < slot_count j → length (slot_at j p) ≡ slot_length
unfolding slot_at
length_slot j p h = length-take-le slot_length (drop (p * slot_length) j) (rw length-drop (omega (arith, slot_within j p h)))

module _ (j : List ℕ) (p : ℕ) (s : List ℕ) (h : p < slot_count j) (n : length s ≡ slot_length) where
  abbrev front : List ℕ
  front = take (p * slot_length) j

  abbrev back : List ℕ
  back = drop (p * slot_length + slot_length) j

  length_front : length front ≡ p * slot_length
  length_front = length-take-le (p * slot_length) j (omega (arith, slot_within j p h))

  pub length_with : length (with_slot j p s) ≡ length j
  unfolding with_slot
  length_with = omega (arith, length-append front (s ++ back), length-append s back, length_front, n, length-drop (p * slot_length + slot_length) j, slot_within j p h)

  pub count_with : slot_count (with_slot j p s) ≡ slot_count j
  unfolding slot_count
  count_with = ap (λ (x : ℕ). x / slot_length) length_with

  pub slot_here : slot_at (with_slot j p s) p ≡ s
  unfolding slot_at with_slot
  slot_here = ap (take slot_length) (drop_at front (s ++ back) (p * slot_length) length_front) ∙ take_at s back slot_length n

  -- a slot before it, in the journal and in its front
  in_front : (i : ℕ) (r : List ℕ) → i < p → take slot_length (drop (i * slot_length) (front ++ r)) ≡ take slot_length (drop (i * slot_length) front)
  in_front i r l =
      let a : i * slot_length ≤ length front = omega (arith, length_front) in
      let b : slot_length ≤ length (drop (i * slot_length) front) = rw length-drop (omega (arith, length_front)) in
      ap (take slot_length) (drop-append-le (i * slot_length) front r a) ∙ take-append-le slot_length (drop (i * slot_length) front) r b

  pub slot_before : (i : ℕ) → i < p → slot_at (with_slot j p s) i ≡ slot_at j i
  unfolding slot_at with_slot
  slot_before i l =
      in_front i (s ++ back) l ∙ sym (in_front i (drop (p * slot_length) j) l) ∙ ap (λ (x : List ℕ). take slot_length (drop (i * slot_length) x)) (take-append-drop (p * slot_length) j)

  pub slot_behind : (i : ℕ) → p < i → slot_at (with_slot j p s) i ≡ slot_at j i
  unfolding slot_at with_slot
  slot_behind i l =
      let d = i * slot_length - (p * slot_length + slot_length) in
      let f : length (front ++ s) ≡ p * slot_length + slot_length = omega (arith, length-append front s, length_front, n) in
      let e : i * slot_length ≡ length (front ++ s) + d = omega (arith, f) in
      let g : p * slot_length + slot_length + d ≡ i * slot_length = omega arith in
      ap (take slot_length)
      (ap₂ (λ (x : ℕ) (y : List ℕ). drop x y) e (sym (append_assoc front s back)) ∙ drop-append-add (front ++ s) back d
      ∙ drop-drop d (p * slot_length + slot_length) j ∙ ap (λ (x : ℕ). drop x j) g)

-- slots that are the same hold the same
pub slots_same : (i j : List ℕ) (p n : ℕ) → ((k : ℕ) → p ≤ k → k < p + n → slot_at i k ≡ slot_at j k) → slots_from i p n ≡ slots_from j p n
unfolding slots_from
slots_same i j p zero h = refl
slots_same i j p (suc n) h =
    ap₂ ◌∷◌ (ap judged (h p (omega arith) (omega arith))) (slots_same i j (suc p) n (λ k a b. h k (omega arith) (omega arith)))

pub slots_split : (j : List ℕ) (p a n : ℕ) → slots_from j p (a + n) ≡ slots_from j p a ++ slots_from j (p + a) n
unfolding slots_from
slots_split j p zero n = ap₂ (slots_from j) (sym (add-zero p)) (let e : 0 + n ≡ n = omega arith in e)
slots_split j p (suc a) n =
    ap (slots_from j p) (suc-add a n)
    ∙ ap (judged (slot_at j p) ∷◌) (slots_split j (suc p) a n ∙ ap (λ (x : ℕ). slots_from j (suc p) a ++ slots_from j x n) (let e : suc p + a ≡ p + suc a = omega arith in e))
