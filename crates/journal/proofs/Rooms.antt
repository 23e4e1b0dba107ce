-- Looking for the place of the next record, slot by slot. Assumes nothing.
use Prim.Native.Nat.{ℕ, suc, ◌+◌, ◌-◌, ◌*◌, ◌/◌, ◌<◌, ◌≤◌}
use mathlib.Core.Path.{◌≡◌, refl, sym, ap, ap₂, subst, ◌∙◌}
use mathlib.Core.Bool.{Bool, true, false}
use mathlib.Core.List.{List, [], ◌∷◌}
use native.Mathlib.Omega.{arith}
use native.Mathlib.Numerals.{add-one}
use lib.ListN.{length, take, drop}
use lib.Dec.{eqb}
use denote.Bor.{Bor}
use borrow.Author.Tests.{eq-eqb, ne_eqb}
use Rattle.slots.specs.Slots as slots
use Rattle.slots.specs.Slots.{slot_length, judged}
use Rattle.slot_reader.specs.Meaning.{slot_of, Judged}
use Rattle.slot_reader.specs.declared.Slot.{Slot}
use Rattle.slot_reader.specs.declared.Slot.TheVariants.{Blank, Torn, Bad, Whole}
use Rattle.journal.specs.Journal.{slot_count, slot_at, slots_from, slots_of, room_from, room_in, nowhere}
use Rattle.journal.specs.Meaning.{room_of, Found}
use Rattle.std.specs.Prelude.{Some, None}

-- the slots from a place on: the one there, and those behind it
pub slots_step : (j : List ℕ) (p n : ℕ) → p < n → slots_from j p (n - p) ≡ judged (slot_at j p) ∷ slots_from j (p + 1) (n - (p + 1))
unfolding slots_from
slots_step j p n h =
    let e : n - p ≡ suc (n - (p + 1)) = omega arith in
    ap (slots_from j p) e ∙ ap (λ (x : ℕ). judged (slot_at j p) ∷ slots_from j x (n - (p + 1))) (sym (add-one p))

pub slots_end : (j : List ℕ) (p n : ℕ) → n ≤ p → slots_from j p (n - p) ≡ []
unfolding slots_from
slots_end j p n h = let e : n - p ≡ 0 = omega arith in ap (slots_from j p) e

-- a part of the journal, judged, is what the slot of its place holds
pub part_judged : (j : List ℕ) (p : ℕ) {m : ℕ} {r : Slot} → Judged (judged (take m (drop (p * slot_length) j))) r → m ≡ slot_length → Judged (judged (slot_at j p)) r
unfolding slot_at
part_judged j p {m} {r} h e = subst (λ (x : ℕ). Judged (judged (take x (drop (p * slot_length) j))) r) e h

-- a slot lies within the journal
pub slot_room : (j : List ℕ) (p : ℕ) → p < slot_count j → p * 128 + 128 ≤ length j
unfolding slot_count
slot_room j p h = omega arith

pub slot_count_lem : (j : List ℕ) → length j / slot_length ≡ slot_count j
unfolding slot_count
slot_count_lem j = refl

pub room_starts : (j : List ℕ) {n : ℕ} → n ≡ slot_count j → room_from 0 0 (slots_from j 0 (n - 0)) ≡ room_in j
unfolding room_in slots_of
room_starts j {n} e = let d : n - 0 ≡ slot_count j = omega arith in ap (λ (x : ℕ). room_from 0 0 (slots_from j 0 x)) d

pub room_ends : (j : List ℕ) (c p n : ℕ) → room_from c p (slots_from j p (n - p)) ≡ room_in j → n ≤ p → Found j None
unfolding room_from room_of
room_ends j c p n i h = record { is = sym (ap (room_from c p) (slots_end j p n h)) ∙ i; within = tt }

-- one slot: what was looked for from it on is looked for from the next on, or found
module _ (j : List ℕ) (c p n : ℕ) (i : room_from c p (slots_from j p (n - p)) ≡ room_in j) (h : p < n) (r : Slot) (s : slot_of r ≡ judged (slot_at j p)) where
  abbrev rest : List slots.Slot
  rest = slots_from j (p + 1) (n - (p + 1))

  here : {x : slots.Slot} → slot_of r ≡ x → room_from c p (x ∷ rest) ≡ room_in j
  here {x} e = sym (ap (room_from c p) (slots_step j p n h ∙ ap (◌∷ rest) (sym s ∙ e))) ∙ i

  pub at_blank : r ≡ Blank → n ≡ slot_count j → c ≤ p → Found j (Some (record { records = c; place = p }))
  unfolding room_from room_of slot_of
  at_blank t e l = record { is = here (ap slot_of t); within = (l, rw (← e) h) }

  pub at_torn : r ≡ Torn → room_from c (p + 1) rest ≡ room_in j
  unfolding room_from slot_of
  at_torn t = ap (λ (x : ℕ). room_from c x rest) (add-one p) ∙ here (ap slot_of t)

  pub at_bad : r ≡ Bad → Found j None
  unfolding room_from room_of slot_of
  at_bad t = record { is = here (ap slot_of t); within = tt }

  module _ {q k : ℕ} {i₀ : Bor (List ℕ)} (t : r ≡ Whole q k i₀) where
    -- a whole record, by whether its number is the next
    numbered : (b : Bool) → eqb q c ≡ b → elim b [ true ↦ room_from (suc c) (suc p) rest | false ↦ nowhere ] ≡ room_in j
    unfolding room_from slot_of
    numbered b e = sym (ap (λ (x : Bool). elim x [ true ↦ room_from (suc c) (suc p) rest | false ↦ nowhere ]) e) ∙ here (ap slot_of t)

    pub at_other : (q ≡ c → ⊥) → Found j None
    unfolding room_of
    at_other d = record { is = numbered false (ne_eqb q c d); within = tt }

    pub at_next : q ≡ c → room_from (c + 1) (p + 1) rest ≡ room_in j
    at_next e = ap₂ (λ (x y : ℕ). room_from x y rest) (add-one c) (add-one p) ∙ numbered true (eq-eqb q c e)
