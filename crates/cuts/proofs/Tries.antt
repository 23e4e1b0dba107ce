-- After any tries and cuts the slots are those that the tries laid: no completed record is lost, invented, repeated or reordered. Assumes nothing.
use Prim.Native.Nat.{ℕ, zero, suc, ◌+◌, ◌*◌, ◌^◌, ◌<◌, ◌≤◌}
use mathlib.Core.Path.{◌≡◌, refl, sym, ap, ap₂, ◌∙◌}
use mathlib.Core.Bool.{Bool, true, false}
use mathlib.Core.List.{List, [], ◌∷◌, ◌++◌, append_assoc}
use native.Mathlib.Omega.{arith}
use lib.ListN.{length, take, drop, replicate, take-append-drop}
use lib.Seq.{drop-drop}
use borrow.Author.Tests.{eqb-true, eqb-false}
use Rattle.laws.proofs.Tests.{by_bool, eqb_self}
use Rattle.laws.proofs.Searches.{All}
use Rattle.slots.specs.Slots.{slot_length, record_bytes, judged, Slot, blank, torn, whole}
use Rattle.journal.specs.Journal.{slot_count, slot_at, with_slot, slots_from, slots_of, free, nowhere, Room, room_from, room_in}
use Rattle.cuts.specs.Disk.{Try, Proper, storing, try_in, trying, try_all, Zeroed}
use Rattle.cuts.specs.After.{is_untouched, is_complete, laid}
use Rattle.journal.proofs.Places.{length_slot, count_with, slot_here, slot_before, slot_behind, slots_same, slots_split}
use Rattle.cuts.proofs.Stored.{length_storing, stored_some, stored_whole}

-- slots in use, with so many records in them, and blank ones behind
record InUse (j : List ℕ) (ls : List Slot) (c p n : ℕ) : Type 0 where
  count : slot_count j ≡ p + n
  before : slots_from j 0 p ≡ ls
  behind : slots_from j p n ≡ replicate n blank
  numbers : (ss : List Slot) → room_from 0 0 (ls ++ ss) ≡ room_from c p ss
  few : c ≤ p

module _ {j : List ℕ} {ls : List Slot} {c p n : ℕ} (r : InUse j ls c p n) where
  slots_are : slots_of j ≡ ls ++ replicate n blank
  unfolding slots_of
  slots_are =
      ap (slots_from j 0) r.count ∙ slots_split j 0 p n
      ∙ ap₂ ◌++◌ r.before (ap (λ (x : ℕ). slots_from j x n) (let e : 0 + p ≡ p = omega arith in e) ∙ r.behind)

  room_is : room_in j ≡ room_from c p (replicate n blank)
  unfolding room_in
  room_is = ap (room_from 0 0) slots_are ∙ r.numbers (replicate n blank)

-- the slot that is next
module _ {j : List ℕ} {ls : List Slot} {c p n : ℕ} (r : InUse j ls c p (suc n)) where
  next_within : p < slot_count j
  next_within = omega (arith, r.count)

  next_parts : (judged (slot_at j p) ≡ blank) × (slots_from j (suc p) n ≡ replicate n blank)
  unfolding slots_from
  next_parts = let e = r.behind in (cc, cc)

  room_free : room_in j ≡ free c p
  unfolding room_from
  room_free = room_is r

  -- it is filled
  module _ (s : List ℕ) (m : length s ≡ slot_length) where
    abbrev j' : List ℕ
    j' = with_slot j p s

    last : {x : Slot} → judged s ≡ x → slots_from j' (0 + p) 1 ≡ x ∷ []
    unfolding slots_from
    last e = ap (◌∷ []) (ap (λ (y : ℕ). judged (slot_at j' y)) (let z : 0 + p ≡ p = omega arith in z) ∙ ap judged (slot_here j p s next_within m) ∙ e)

    filled : {x : Slot} (d : ℕ) → judged s ≡ x → d ≤ suc p → ((ss : List Slot) → room_from c p (x ∷ ss) ≡ room_from d (suc p) ss) → InUse j' (ls ++ x ∷ []) d (suc p) n
    filled {x} d e f g =
        record {
          count = count_with j p s next_within m ∙ r.count ∙ omega arith;
          before =
              ap (slots_from j' 0) (let e : suc p ≡ p + 1 = omega arith in e) ∙ slots_split j' 0 p 1
              ∙ ap₂ ◌++◌ (slots_same j' j 0 p (λ k a b. slot_before j p s next_within m k (omega arith)) ∙ r.before) (last e);
          behind = slots_same j' j (suc p) n (λ k a b. slot_behind j p s next_within m k (omega arith)) ∙ next_parts.1;
          numbers = λ ss. ap (room_from 0 0) (append_assoc ls (x ∷ []) ss) ∙ r.numbers (x ∷ ss) ∙ g ss;
          few = f;
        }

    filled_torn : judged s ≡ torn → InUse j' (ls ++ torn ∷ []) c (suc p) n
    unfolding room_from
    filled_torn e = filled c e (omega (arith, r.few)) (λ ss. refl)

    filled_whole : (k : ℕ) (bs : List ℕ) → judged s ≡ whole c k bs → InUse j' (ls ++ whole c k bs ∷ []) (suc c) (suc p) n
    unfolding room_from
    filled_whole k bs e =
        filled (suc c) e (omega (arith, r.few)) (λ ss. ap (λ (b : Bool). elim b [ true ↦ room_from (suc c) (suc p) ss | false ↦ nowhere ]) (eqb_self c))

  -- a slot replaced by itself
  put_back : with_slot j p (slot_at j p) ≡ j
  unfolding with_slot slot_at
  put_back =
      ap (take (p * slot_length) j ++◌)
      (ap (take slot_length (drop (p * slot_length) j) ++◌) (sym (drop-drop slot_length (p * slot_length) j)) ∙ take-append-drop slot_length (drop (p * slot_length) j))
      ∙ take-append-drop (p * slot_length) j

-- no slot, no try
laid_full : (c : ℕ) (ts : List Try) → laid c ts 0 ≡ []
unfolding laid
laid_full c [] = refl
laid_full c (a ∷ ts) = refl

trying_is : (a : Try) (j : List ℕ) (x : Room) → room_in j ≡ x → trying a j ≡ try_in x a j
unfolding trying
trying_is a j x e = ap (λ y. try_in y a j) e

-- one try into the next slot
module _ (a : Try) (w : Proper a) {j : List ℕ} {ls : List Slot} (c p n : ℕ) (r : InUse j ls c p (suc n)) (h : slot_count j < 2 ^ 32) where
  abbrev rec : List ℕ
  rec = record_bytes c a.kind a.input

  abbrev left : List ℕ
  left = storing a.stored rec (slot_at j p)

  tried_free : trying a j ≡ with_slot j p left
  unfolding try_in
  tried_free = trying_is a j (free c p) (room_free r)

  length_left : length left ≡ slot_length
  length_left = length_storing a.stored rec (slot_at j p) ∙ length_slot j p (next_within r)

  still_short : slot_count (with_slot j p left) < 2 ^ 32
  still_short = omega (arith, count_with j p left (next_within r) length_left)

  untouched : is_untouched a ≡ true → with_slot j p left ≡ j
  unfolding is_untouched storing
  untouched t = ap (λ (m : ℕ). with_slot j p (storing m rec (slot_at j p))) (eqb-true a.stored 0 t) ∙ put_back r

  complete : is_complete a ≡ true → judged left ≡ whole c a.kind a.input
  unfolding is_complete
  complete u =
      ap (λ (m : ℕ). judged (storing m rec (slot_at j p))) (eqb-true a.stored slot_length u)
      ∙ stored_whole (slot_at j p) (length_slot j p (next_within r)) (next_parts r).0 c a.kind a.input w.is_input (omega (arith, r.few, r.count, h))

  cut : is_untouched a ≡ false → is_complete a ≡ false → judged left ≡ torn
  unfolding is_untouched is_complete
  cut t u =
      stored_some (slot_at j p) (length_slot j p (next_within r)) (next_parts r).0 c a.kind a.input w.is_input a.stored
      (let z = eqb-false a.stored 0 t in omega (arith, z)) (let z = eqb-false a.stored slot_length u in omega (arith, z, w.cut))

-- the three clauses of what is laid
pub lays : (c : ℕ) (a : Try) (ts : List Try) (n : ℕ) {x y : Bool} → is_untouched a ≡ x → is_complete a ≡ y
    → laid c (a ∷ ts) (suc n)
    ≡ elim x [ true ↦ laid c ts (suc n) | false ↦ elim y [ true ↦ whole c a.kind a.input ∷ laid (suc c) ts n | false ↦ torn ∷ laid c ts n ] ]
unfolding laid
lays c a ts n e f =
    ap₂ (λ (x y : Bool). elim x [ true ↦ laid c ts (suc n) | false ↦ elim y [ true ↦ whole c a.kind a.input ∷ laid (suc c) ts n | false ↦ torn ∷ laid c ts n ] ]) e f

tried_nowhere : (a : Try) {j : List ℕ} {ls : List Slot} {c p : ℕ} → InUse j ls c p zero → trying a j ≡ j
unfolding room_from try_in
tried_nowhere a {j} r = trying_is a j nowhere (room_is r)

laid_all : (ts : List Try) → All Proper ts → {j : List ℕ} {ls : List Slot} (c p n : ℕ) → InUse j ls c p n → slot_count j < 2 ^ 32 → slots_of (try_all ts j) ≡ ls ++ laid c ts n
unfolding try_all laid
laid_all [] w c p n r h = slots_are r
laid_all (a ∷ ts) w {j} {ls} c p zero r h =
    ap (λ (x : List ℕ). slots_of (try_all ts x)) (tried_nowhere a r) ∙ laid_all ts w.1 c p zero r h ∙ ap (ls ++◌) (laid_full c ts ∙ sym (laid_full c (a ∷ ts)))
laid_all (a ∷ ts) w {j} {ls} c p (suc n) r h =
    let x = storing a.stored (record_bytes c a.kind a.input) (slot_at j p) in
    let l : length x ≡ slot_length = length_left a w.0 c p n r h in
    let short = still_short a w.0 c p n r h in
    ap (λ (y : List ℕ). slots_of (try_all ts y)) (tried_free a w.0 c p n r h)
    ∙ by_bool (is_untouched a)
    (λ t.
    ap (λ (y : List ℕ). slots_of (try_all ts y)) (untouched a w.0 c p n r h t) ∙ laid_all ts w.1 c p (suc n) r h
    ∙ ap (ls ++◌) (sym (lays c a ts n t refl)))
    (λ t.
    by_bool (is_complete a)
    (λ u.
    laid_all ts w.1 (suc c) (suc p) n (filled_whole r x l a.kind a.input (complete a w.0 c p n r h u)) short
    ∙ append_assoc ls (whole c a.kind a.input ∷ []) (laid (suc c) ts n) ∙ ap (ls ++◌) (sym (lays c a ts n t u)))
    (λ u.
    laid_all ts w.1 c (suc p) n (filled_torn r x l (cut a w.0 c p n r h t u)) short
    ∙ append_assoc ls (torn ∷ []) (laid c ts n) ∙ ap (ls ++◌) (sym (lays c a ts n t u))))

-- ---- from zeroed slots

start : (j : List ℕ) → Zeroed j → InUse j [] 0 0 (slot_count j)
unfolding slots_from slots_of
start j z = record { count = omega arith; before = refl; behind = z; numbers = λ ss. refl; few = omega arith }

-- "a cut after any byte must leave every completed record readable": after any tries the slots of a journal hold the completed records, in
-- their order and under their numbers, torn slots where the power was cut after the first byte and before the last, and blank ones behind
pub slots_after : (ts : List Try) → All Proper ts → (j : List ℕ) → Zeroed j → slot_count j < 2 ^ 32 → slots_of (try_all ts j) ≡ laid 0 ts (slot_count j)
slots_after ts w j z h = laid_all ts w 0 0 (slot_count j) (start j z) h
