-- 02, request 1: what a disk holds after tries and cuts, and what the completed inputs give. Assumes nothing.
use Rattle.std.specs.Prelude.{ℕ, zero, suc, ◌+◌, ◌≡◌, Bool, true, false, List, [], ◌∷◌, length, replicate, eqb}
use Rattle.slots.specs.Slots.{slot_length, Slot, blank, torn, bad, whole}
use Rattle.keeping.specs.Taken.{is_taken}
use Rattle.slot_replay.specs.Handed.{handed}
use Rattle.slot_replay.specs.Fold.{Replay}
use Rattle.cuts.specs.Disk.{Try}

-- before the first byte, and after the last one
unfoldable pub is_untouched : Try → Bool
is_untouched a = eqb a.stored 0

unfoldable pub is_complete : Try → Bool
is_complete a = eqb a.stored slot_length

-- what some blank slots hold after some tries, with so many records before them: a try cut before its first byte leaves its slot
-- blank for the next one, a complete one is a whole record with the next number, any other leaves a torn slot
unfoldable pub laid : ℕ → List Try → ℕ → List Slot
laid c [] n = replicate n blank
laid c (a ∷ ts) zero = []
laid c (a ∷ ts) (suc n) =
    elim (is_untouched a) [
      | true ↦ laid c ts (suc n)
      | false ↦ elim (is_complete a) [ true ↦ whole c a.kind a.input ∷ laid (suc c) ts n | false ↦ torn ∷ laid c ts n ]
    ]

-- the inputs of the complete tries that found a slot, in their order
unfoldable pub completed : List Try → ℕ → List (ℕ × List ℕ)
completed [] n = []
completed (a ∷ ts) zero = []
completed (a ∷ ts) (suc n) =
    elim (is_untouched a)
    [ true ↦ completed ts (suc n) | false ↦ elim (is_complete a) [ true ↦ (a.kind, a.input) ∷ completed ts n | false ↦ completed ts n ] ]

-- the places, from p on, of the slots that were cut after their first byte and before their last
unfoldable pub torn_places : List Try → ℕ → ℕ → List ℕ
torn_places [] n p = []
torn_places (a ∷ ts) zero p = []
torn_places (a ∷ ts) (suc n) p =
    elim (is_untouched a)
    [ true ↦ torn_places ts (suc n) p | false ↦ elim (is_complete a) [ true ↦ torn_places ts n (suc p) | false ↦ p ∷ torn_places ts n (suc p) ] ]

-- how many slots the tries used up
unfoldable pub used : List Try → ℕ → ℕ
used [] n = 0
used (a ∷ ts) zero = 0
used (a ∷ ts) (suc n) = elim (is_untouched a) [ true ↦ used ts (suc n) | false ↦ suc (used ts n) ]

-- what inputs, handed to the station one after another, leave in the store and in the out buffer
unfoldable pub store_after : List (ℕ × List ℕ) → List ℕ → List ℕ → List ℕ
store_after [] b o = b
store_after (i ∷ is) b o = store_after is (handed i.0 i.1 b o).store (handed i.0 i.1 b o).out

unfoldable pub out_after : List (ℕ × List ℕ) → List ℕ → List ℕ → List ℕ
out_after [] b o = o
out_after (i ∷ is) b o = out_after is (handed i.0 i.1 b o).store (handed i.0 i.1 b o).out

-- each is "answered 0, 6, 7 or 8"
abbrev pub AllTaken : List (ℕ × List ℕ) → List ℕ → List ℕ → Type 0
AllTaken [] b o = Unit
AllTaken (i ∷ is) b o =
    (is_taken (handed i.0 i.1 b o).result ≡ true) × AllTaken is (handed i.0 i.1 b o).store (handed i.0 i.1 b o).out

-- the replay of so many records and slots before, and of what the tries left
unfoldable pub replay_of : ℕ → ℕ → List Try → ℕ → List ℕ → List ℕ → Replay
replay_of c p ts n b o =
    record {
      stopped = false;
      records = c + length (completed ts n);
      place = p + used ts n;
      torn = torn_places ts n p;
      store = store_after (completed ts n) b o;
      out = out_after (completed ts n) b o;
    }

-- a replay that was not stopped
unfoldable pub calm : Replay → Replay
calm v = record { stopped = false; records = v.records; place = v.place; torn = v.torn; store = v.store; out = v.out }

-- no slot is blank
abbrev pub Filled : List Slot → Type 0
Filled [] = Unit
Filled (blank ∷ ss) = ⊥
Filled (torn ∷ ss) = Filled ss
Filled (bad ∷ ss) = Filled ss
Filled (whole q k bs ∷ ss) = Filled ss
