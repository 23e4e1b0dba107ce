-- Writing a record into a journal: what each answer leaves. Assumes nothing.
use Prim.Native.Nat.{ℕ, ◌+◌, ◌-◌, ◌*◌, ◌/◌, ◌^◌, ◌<◌, ◌≤◌}
use mathlib.Core.Path.{◌≡◌, sym, ap, ap₂, ◌∙◌, subst}
use mathlib.Core.Bool.{Bool, true, false, ◌&&◌}
use mathlib.Core.List.{List, ◌++◌}
use native.Mathlib.Omega.{arith}
use lib.ListN.{length, take, drop}
use borrow.Author.Tests.{lt-ltb, le-ltb}
use borrow.Rule.Slice.PartMut.{Post-is}
use Rattle.slots.specs.Slots.{slot_length, most_input, is_input, record_bytes, Written, written}
use Rattle.slots.proofs.Inputs.{input_fits}
use Rattle.journal.specs.Journal.{slot_count, with_slot, room_in, is_short, placing, writing}
use Rattle.journal.specs.Meaning.{room_of, Within, Found}
use Rattle.journal.specs.declared.Room.{Room}
use Rattle.std.specs.Prelude.{Option, Some, None}

module _ (j : List ℕ) (k : ℕ) (bs : List ℕ) where
  -- an answer by its test
  abbrev answered : Bool → Written
  answered b = elim b [ false ↦ written (13 * 2 ^ 32) j | true ↦ placing (room_in j) j k bs ]

  refusing : {r : ℕ} → (is_short j && is_input k bs) ≡ false → r ≡ 13 * 2 ^ 32 → written r j ≡ writing j k bs
  unfolding writing
  refusing t e = ap (λ (x : ℕ). written x j) e ∙ sym (ap answered t)

  pub too_long : {n r : ℕ} → n ≡ slot_count j → 4_294_967_295 < n → r ≡ 13 * 2 ^ 32 → written r j ≡ writing j k bs
  unfolding is_short
  too_long {n} e h a =
      let l : 2 ^ 32 ≤ slot_count j = omega (arith, e) in
      refusing (ap (◌&& is_input k bs) (le-ltb (slot_count j) (2 ^ 32) l)) a

  module _ {n : ℕ} (e : n ≡ slot_count j) (h : n ≤ 4_294_967_295) where
    short : is_short j ≡ true
    unfolding is_short
    short = lt-ltb (slot_count j) (2 ^ 32) (omega (arith, e))

    module _ {i : Bool} (f : i ≡ is_input k bs) where
      pub no_input : {r : ℕ} → i ≡ false → r ≡ 13 * 2 ^ 32 → written r j ≡ writing j k bs
      no_input t a = refusing (ap₂ (λ (x y : Bool). x && y) short (sym f ∙ t)) a

      module _ (t : i ≡ true) {x : Option Room} (g : Found j x) where
        placed : placing (room_of x) j k bs ≡ writing j k bs
        unfolding writing
        placed = ap (λ y. placing y j k bs) g.is ∙ sym (ap answered (ap₂ (λ (x y : Bool). x && y) short (sym f ∙ t)))

        pub no_room : {r : ℕ} → x ≡ None → r ≡ 13 * 2 ^ 32 → written r j ≡ writing j k bs
        unfolding placing room_of
        no_room u a = ap (λ (y : ℕ). written y j) a ∙ ap (λ y. placing (room_of y) j k bs) (sym u) ∙ placed

        module _ {r : Room} (u : x ≡ Some r) where
          abbrev c : ℕ
          c = r.records

          abbrev p : ℕ
          p = r.place

          -- the place lies within the journal
          place_within : (c ≤ p) × (p < slot_count j) × (p * slot_length + slot_length ≤ length j)
          unfolding slot_count
          place_within =
              let w : (c ≤ p) × (p < length j / slot_length) = subst (Within j) u g.within in
              (w.0, w.1, omega (arith, w.1))

          pub may_write : (c < 2 ^ 32) × (k < 256) × (length bs ≤ most_input)
          may_write =
              let f = input_fits k bs (sym f ∙ t) in
              (omega (arith, place_within.0, place_within.1, e), f.0, f.1)

          pub is_written : {b : List ℕ} → b ≡ record_bytes c k bs
              → written p (take (p * slot_length) j ++ (b ++ drop ((p * slot_length + slot_length) - p * slot_length) (drop (p * slot_length) j))) ≡ writing j k bs
          unfolding placing room_of with_slot
          is_written d =
              ap₂ (λ (y z : List ℕ). written p (take (p * slot_length) j ++ (y ++ z))) d (Post-is (p * slot_length) (p * slot_length + slot_length) j (omega arith))
              ∙ ap (λ y. placing (room_of y) j k bs) (sym u) ∙ placed
