-- One input more in a list that has a slot left. Assumes nothing.
use Prim.Native.Nat.{ℕ, zero, suc, ◌+◌, ◌-◌, ◌*◌, ◌/◌, ◌%◌, ◌<◌, ◌≤◌}
use mathlib.Core.Path.{◌≡◌, refl, sym, ap, ap₂, ◌∙◌}
use mathlib.Core.Bool.{true, false}
use mathlib.Core.List.{List, ◌++◌, append_assoc}
use native.Mathlib.Omega.{arith}
use lib.ListN.{length, take, drop, set}
use lib.Seq.{take-add, drop-drop, take-set-lt}
use lib.Dec.{lit≤}
use borrow.Author.Tests.{leb-false}
use borrow.Rule.Slice.PartMut.{Post-is}
use Rattle.fields.specs.Places.{number, put}
use Rattle.fields.proofs.Lists.{drop_put}
use Rattle.slots.specs.Slots.{slot_length, record_bytes}
use Rattle.journal.specs.Journal.{with_slot}
use Rattle.lent_list.specs.Lists.{head_length, most_slots, records_in, slots_in, has_length, count_in, is_full, added}
use Rattle.lent_list.proofs.Lengths.{lengths}

-- a number put into the front of a list
take_put : (n : ℕ) (s : List ℕ) (at w v : ℕ) → at + w ≤ n → take n (put s at w v) ≡ put (take n s) at w v
unfolding put
take_put n s at zero v h = refl
take_put n s at (suc w) v h =
    take_put n (set s (at + w) (v % 256)) at w (v / 256) (omega arith)
    ∙ ap (λ (l : List ℕ). put l at w (v / 256)) (take-set-lt n s (at + w) (v % 256) (omega arith))

module _ (l : List ℕ) (long : has_length l ≡ true) (free : is_full l ≡ false) {c : ℕ} (e : c ≡ number l 4 4) where
  counted : c ≡ count_in l
  unfolding count_in
  counted = e

  -- the place of the record lies within the list, and its number is small
  pub within : (c < most_slots) × (head_length + c * slot_length + slot_length ≤ length l)
  unfolding is_full
  within =
      let t = lengths l long in
      let f = leb-false (slots_in l) (count_in l) free in
      (omega (arith, t.2, counted), omega (arith, t.0, counted))

  abbrev at : ℕ
  at = head_length + c * slot_length

  pub is_added : (k : ℕ) (bs : List ℕ) {s b : List ℕ} → s ≡ put l 4 4 (c + 1) → b ≡ record_bytes c k bs
      → take at s ++ (b ++ drop ((at + slot_length) - at) (drop at s)) ≡ added k bs l
  unfolding added with_slot
  is_added k bs {s} {b} p q =
      let j = records_in l in
      let front : take at s ≡ put (take head_length l) 4 4 (c + 1) ++ take (c * slot_length) j =
      ap (take at) p ∙ take-add head_length (c * slot_length) (put l 4 4 (c + 1))
      ∙ ap₂ (λ (x y : List ℕ). x ++ take (c * slot_length) y) (take_put head_length l 4 4 (c + 1) (lit≤ tt)) (drop_put head_length l 4 4 (c + 1) (lit≤ tt)) in
      let sum : at + slot_length ≡ head_length + (c * slot_length + slot_length) = omega arith in
      let back : drop ((at + slot_length) - at) (drop at s) ≡ drop (c * slot_length + slot_length) j =
      Post-is at (at + slot_length) s (omega arith) ∙ ap (drop (at + slot_length)) p ∙ drop_put (at + slot_length) l 4 4 (c + 1) (omega arith)
      ∙ ap (λ (n : ℕ). drop n l) sum ∙ sym (drop-drop (c * slot_length + slot_length) head_length l) in
      ap₂ (λ (x y : List ℕ). x ++ y) front (ap₂ (λ (x y : List ℕ). x ++ y) q back)
      ∙ append_assoc (put (take head_length l) 4 4 (c + 1)) (take (c * slot_length) j) (record_bytes c k bs ++ drop (c * slot_length + slot_length) j)
      ∙ ap (λ (n : ℕ). put (take head_length l) 4 4 (n + 1) ++ with_slot j n (record_bytes n k bs)) counted
