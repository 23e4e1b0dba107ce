-- The form of a list, slot by slot and test by test. Assumes nothing.
use Prim.Native.Nat.{ℕ, ◌+◌, ◌-◌, ◌*◌, ◌<◌, ◌≤◌}
use mathlib.Core.Path.{◌≡◌, sym, ap, ap₂, ◌∙◌, subst}
use mathlib.Core.Bool.{Bool, true, false, ◌&&◌, and-false}
use mathlib.Core.List.{List}
use native.Mathlib.Omega.{arith}
use native.Mathlib.Numerals.{add-one}
use lib.ListN.{length, take, drop}
use lib.Seq.{drop-drop}
use lib.Dec.{leb, ltb, eqb}
use denote.Bor.{Bor}
use borrow.Author.Tests.{lt-ltb, le-ltb}
use Rattle.rules.specs.Sizes.{good_settings}
use Rattle.fields.specs.Places.{number}
use Rattle.slots.specs.Slots as slots
use Rattle.slots.specs.Slots.{slot_length, judged}
use Rattle.slot_reader.specs.Meaning.{slot_of, Judged}
use Rattle.slot_reader.specs.declared.Slot.{Slot}
use Rattle.slot_reader.specs.declared.Slot.TheVariants.{Blank, Torn, Bad, Whole}
use Rattle.journal.specs.Journal.{slot_count, slot_at, slots_from, slots_of}
use Rattle.journal.proofs.Rooms.{slots_step, slots_end}
use Rattle.lent_list.proofs.Lengths.{behind_head}
use Rattle.lent_list.specs.Lists.{head_length, records_in, slots_in, settings_in, count_in, is_placed, are_placed, has_form}

-- one slot, as the code judged it behind the head
module _ (l : List ℕ) (c p n : ℕ) {r : Slot} (h : Judged (judged (slot_at (take n (drop head_length l)) p)) r) (e : n ≡ length l - head_length) where
  here : {x : slots.Slot} → slot_of r ≡ x → judged (slot_at (records_in l) p) ≡ x
  here f = sym (h.is ∙ ap (λ (y : List ℕ). judged (slot_at y p)) (behind_head l n e)) ∙ f

  pub at_blank : r ≡ Blank → leb c p ≡ is_placed c p (judged (slot_at (records_in l) p))
  unfolding is_placed slot_of
  at_blank f = ap (is_placed c p) (sym (here (ap slot_of f)))

  pub at_torn : r ≡ Torn → false ≡ is_placed c p (judged (slot_at (records_in l) p))
  unfolding is_placed slot_of
  at_torn f = ap (is_placed c p) (sym (here (ap slot_of f)))

  pub at_bad : r ≡ Bad → false ≡ is_placed c p (judged (slot_at (records_in l) p))
  unfolding is_placed slot_of
  at_bad f = ap (is_placed c p) (sym (here (ap slot_of f)))

  pub at_whole : {q k : ℕ} {i : Bor (List ℕ)} → r ≡ Whole q k i → (ltb p c && eqb q p) ≡ is_placed c p (judged (slot_at (records_in l) p))
  unfolding is_placed slot_of
  at_whole f = ap (is_placed c p) (sym (here (ap slot_of f)))

-- all slots
module _ (l : List ℕ) (c : ℕ) {n : ℕ} (e : n ≡ slots_in l) where
  abbrev j : List ℕ
  j = records_in l

  abbrev all : Bool
  all = are_placed c 0 (slots_of j)

  pub placed_starts : are_placed c 0 (slots_from j 0 (n - 0)) ≡ all
  unfolding slots_of slots_in
  placed_starts = let d : n - 0 ≡ slot_count j = omega arith in ap (λ (k : ℕ). are_placed c 0 (slots_from j 0 k)) d

  module _ (p : ℕ) (i : are_placed c p (slots_from j p (n - p)) ≡ all) where
    pub placed_ends : n ≤ p → leb c p ≡ all
    unfolding are_placed
    placed_ends h = sym (ap (are_placed c p) (slots_end j p n h)) ∙ i

    module _ (h : p < n) {b : Bool} (t : b ≡ is_placed c p (judged (slot_at j p))) where
      stepped : (b && are_placed c (p + 1) (slots_from j (p + 1) (n - (p + 1)))) ≡ all
      unfolding are_placed
      stepped =
          ap₂ (λ (x : Bool) (k : ℕ). x && are_placed c k (slots_from j (p + 1) (n - (p + 1)))) t (add-one p)
          ∙ sym (ap (are_placed c p) (slots_step j p n h)) ∙ i

      pub placed_next : b ≡ true → are_placed c (p + 1) (slots_from j (p + 1) (n - (p + 1))) ≡ all
      placed_next u = sym (ap (◌&& are_placed c (p + 1) (slots_from j (p + 1) (n - (p + 1)))) u) ∙ stepped

      pub placed_stops : b ≡ false → false ≡ all
      placed_stops u = sym (ap (◌&& are_placed c (p + 1) (slots_from j (p + 1) (n - (p + 1)))) u) ∙ stepped

-- the head's tests, and the slots
module _ (l : List ℕ) where
  abbrev formed : Bool → Bool → Bool
  formed g z = g && z && are_placed (count_in l) 0 (slots_of (records_in l))

  pub bad_settings : good_settings (settings_in l) ≡ false → false ≡ has_form l
  unfolding has_form
  bad_settings g = sym (ap (λ (b : Bool). formed b (eqb (number l 8 8) 0)) g)

  module _ {z : Bool} (e : z ≡ eqb (number l 8 8) 0) where
    pub not_zero : z ≡ false → false ≡ has_form l
    unfolding has_form
    not_zero f =
        sym
        (ap (formed (good_settings (settings_in l))) (sym e ∙ f)
        ∙ ap (◌&& are_placed (count_in l) 0 (slots_of (records_in l))) (and-false (good_settings (settings_in l))))

    pub by_slots : {c : ℕ} {b : Bool} → good_settings (settings_in l) ≡ true → z ≡ true → c ≡ number l 4 4 → b ≡ are_placed c 0 (slots_of (records_in l)) → b ≡ has_form l
    unfolding has_form count_in
    by_slots g f d p =
        p ∙ ap (λ (k : ℕ). are_placed k 0 (slots_of (records_in l))) d ∙ sym (ap₂ formed g (sym e ∙ f))
