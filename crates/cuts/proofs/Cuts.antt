-- Power cuts: what the calls on a journal make of a disk after any tries and cuts. Assumes nothing.
use Prim.Native.Nat.{ℕ, zero, suc, ◌+◌, ◌*◌, ◌^◌, ◌<◌}
use mathlib.Core.Path.{◌≡◌, refl, sym, ap, ap₂, ◌∙◌}
use mathlib.Core.Bool.{Bool, true, false, ◌&&◌}
use mathlib.Core.List.{List, [], ◌∷◌, ◌++◌}
use mathlib.Core.Option.{Option, none, some}
use native.Mathlib.Omega.{arith}
use lib.ListN.{length}
use lib.Dec.{eqb}
use Rattle.rules.specs.Sizes.{Settings, good_settings}
use Rattle.rules.specs.Words.{State, fresh}
use Rattle.laws.proofs.Tests.{by_bool}
use Rattle.laws.proofs.Searches.{All}
use Rattle.store.specs.Decode.{decode, encode}
use Rattle.oneform.proofs.OneForm.{fresh_encoded}
use Rattle.slots.specs.Slots.{slot_length, is_input, record_bytes, Written, written, Slot, blank, torn, bad, whole}
use Rattle.slots.proofs.Inputs.{input_fits}
use Rattle.slots.proofs.Records.{length_record}
use Rattle.journal.specs.Journal.{slot_count, slot_at, slots_from, slots_of, with_slot, Room, free, nowhere, room_from, room_in, is_short, placing, writing}
use Rattle.slot_replay.specs.Fold.{replay_from}
use Rattle.replay.specs.Replay.{replayed, reported, has_lengths, replaying}
use Rattle.cuts.specs.Disk.{Try, Proper, try_in, trying, try_all, Zeroed}
use Rattle.cuts.specs.After.{is_untouched, is_complete, completed, AllTaken, replay_of, Filled}
use Rattle.journal.proofs.Places.{length_slot}
use Rattle.cuts.proofs.Stored.{stored_all}
use Rattle.cuts.proofs.Tries.{slots_after}
use Rattle.cuts.proofs.Replays.{replay_laid, completed_is}

-- a replay, where the lengths are right and the store is well formed
replaying_is : (j b o t : List ℕ) (s : State) → has_lengths j b o t ≡ true → decode b ≡ some s → replaying j b o t ≡ reported (replay_from 0 0 b o (slots_of j)) t
unfolding replaying
replaying_is j b o t s e d =
    ap₂ (λ (x : Bool) (y : Option State). elim x [ false ↦ replayed (1 * 2 ^ 32) b o t | true ↦ elim y [ none ↦ replayed (2 * 2 ^ 32) b o t | some z ↦ reported (replay_from 0 0 b o (slots_of j)) t ] ]) e d

module _ (ts : List Try) (w : All Proper ts) (j : List ℕ) (z : Zeroed j) (h : slot_count j < 2 ^ 32) (o t : List ℕ) where
  -- after any tries and cuts a replay hands over the completed inputs, in their order, and lists exactly the torn places
  pub replay_after : (b : List ℕ) (s : State) → has_lengths (try_all ts j) b o t ≡ true → decode b ≡ some s → AllTaken (completed ts (slot_count j)) b o
      → replaying (try_all ts j) b o t ≡ reported (replay_of 0 0 ts (slot_count j) b o) t
  replay_after b s e d a =
      replaying_is (try_all ts j) b o t s e d ∙ ap (λ l. reported (replay_from 0 0 b o l) t) (slots_after ts w j z h)
      ∙ ap (λ v. reported v t) (replay_laid ts 0 0 (slot_count j) b o a)

  -- "the state after replay equals the one those inputs give from fresh", to the byte of the store
  pub replay_fresh : (g : Settings) → good_settings g ≡ true → has_lengths (try_all ts j) (encode (fresh g)) o t ≡ true → AllTaken (completed ts (slot_count j)) (encode (fresh g)) o
      → replaying (try_all ts j) (encode (fresh g)) o t ≡ reported (replay_of 0 0 ts (slot_count j) (encode (fresh g)) o) t
  replay_fresh g q e a = replay_after (encode (fresh g)) (fresh g) e (fresh_encoded g q) a

none_tried : (n : ℕ) → completed [] n ≡ []
unfolding completed
none_tried n = refl

no_slot : (a : Try) (ts : List Try) → completed (a ∷ ts) zero ≡ []
unfolding completed
no_slot a ts = refl

-- "an input in a torn slot never happened": a try that is cut adds no input, after whatever tries
pub cut_adds_none : (ts : List Try) (a : Try) (n : ℕ) → is_complete a ≡ false → completed (ts ++ a ∷ []) n ≡ completed ts n
cut_adds_none [] a zero f = no_slot a [] ∙ sym (none_tried zero)
cut_adds_none [] a (suc n) f = by_bool (is_untouched a) (λ e. completed_is a [] n e f ∙ none_tried (suc n)) (λ e. completed_is a [] n e f ∙ none_tried n) ∙ sym (none_tried (suc n))
cut_adds_none (x ∷ ts) a zero f = no_slot x (ts ++ a ∷ []) ∙ sym (no_slot x ts)
cut_adds_none (x ∷ ts) a (suc n) f =
    by_bool (is_untouched x) (λ e. completed_is x (ts ++ a ∷ []) n e refl ∙ cut_adds_none ts a (suc n) f ∙ sym (completed_is x ts n e refl))
    (λ e.
    by_bool (is_complete x)
    (λ g. completed_is x (ts ++ a ∷ []) n e g ∙ ap ((x.kind, x.input) ∷◌) (cut_adds_none ts a n f) ∙ sym (completed_is x ts n e g))
    (λ g. completed_is x (ts ++ a ∷ []) n e g ∙ cut_adds_none ts a n f ∙ sym (completed_is x ts n e g)))

-- ---- writing

never : {c p : ℕ} → nowhere ≡ free c p → ⊥
never e = let z : ◌≡◌ {A = ℕ} 0 1 = cc in omega arith

-- a journal with no blank slot has no place
room_filled : (c p : ℕ) (ss : List Slot) → Filled ss → room_from c p ss ≡ nowhere
unfolding room_from
room_filled c p [] w = refl
room_filled c p (blank ∷ ss) w = absurd w
room_filled c p (torn ∷ ss) w = room_filled c (suc p) ss w
room_filled c p (bad ∷ ss) w = refl
room_filled c p (whole q k bs ∷ ss) w =
    by_bool (eqb q c) (λ t. ap (λ (x : Bool). elim x [ true ↦ room_from (suc c) (suc p) ss | false ↦ nowhere ]) t ∙ room_filled (suc c) (suc p) ss w)
    (λ t. ap (λ (x : Bool). elim x [ true ↦ room_from (suc c) (suc p) ss | false ↦ nowhere ]) t)

room_none : (j : List ℕ) → Filled (slots_of j) → room_in j ≡ nowhere
unfolding room_in
room_none j w = room_filled 0 0 (slots_of j) w

-- a place for a record is the place of a slot
room_place : (c p : ℕ) (ss : List Slot) (d q : ℕ) → room_from c p ss ≡ free d q → q < p + length ss
unfolding room_from
room_place c p [] d q e = absurd (never e)
room_place c p (blank ∷ ss) d q e = let f : p ≡ q = cc in omega arith
room_place c p (torn ∷ ss) d q e = omega (arith, room_place c (suc p) ss d q e)
room_place c p (bad ∷ ss) d q e = absurd (never e)
room_place c p (whole s k bs ∷ ss) d q e =
    by_bool (eqb s c)
    (λ t. omega (arith, room_place (suc c) (suc p) ss d q (sym (ap (λ (x : Bool). elim x [ true ↦ room_from (suc c) (suc p) ss | false ↦ nowhere ]) t) ∙ e)))
    (λ t. absurd (never (sym (ap (λ (x : Bool). elim x [ true ↦ room_from (suc c) (suc p) ss | false ↦ nowhere ]) t) ∙ e)))

length_slots : (j : List ℕ) (p n : ℕ) → length (slots_from j p n) ≡ n
unfolding slots_from
length_slots j p zero = refl
length_slots j p (suc n) = ap suc (length_slots j (suc p) n)

room_within : (j : List ℕ) (c p : ℕ) → room_in j ≡ free c p → p < slot_count j
unfolding room_in slots_of
room_within j c p e = omega (arith, room_place 0 0 (slots_from j 0 (slot_count j)) c p e, length_slots j 0 (slot_count j))

module _ (j : List ℕ) (k : ℕ) (bs : List ℕ) where
  abbrev full : Try
  full = record { kind = k; input = bs; stored = slot_length }

  abbrev answered : Bool → Written
  answered x = elim x [ false ↦ written (13 * 2 ^ 32) j | true ↦ placing (room_in j) j k bs ]

  placed_tried : is_input k bs ≡ true → (x : Room) → room_in j ≡ x → (placing x j k bs).bytes ≡ try_in x full j
  unfolding placing try_in written
  placed_tried i nowhere e = refl
  placed_tried i (free c p) e =
      ap (with_slot j p) (sym (stored_all (record_bytes c k bs) (slot_at j p) (length_slot j p (room_within j c p e)) (length_record c k bs (input_fits k bs i).1)))

  -- writing through the call is a try that is not cut
  pub write_tries : is_short j ≡ true → is_input k bs ≡ true → (writing j k bs).bytes ≡ trying full j
  unfolding writing trying
  write_tries e f = ap (λ (x : Bool). (answered x).bytes) (ap₂ (λ (x y : Bool). x && y) e f) ∙ placed_tried f (room_in j) refl

  -- "with none left it is refused with 13 and nothing is written"
  pub full_refused : Filled (slots_of j) → writing j k bs ≡ written (13 * 2 ^ 32) j
  unfolding writing placing
  full_refused w =
      let e : room_in j ≡ nowhere = room_none j w in
      by_bool (is_short j && is_input k bs) (λ p. ap answered p ∙ ap (λ x. placing x j k bs) e) (λ p. ap answered p)
