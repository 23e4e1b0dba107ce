-- 02, request 1: what replaying a journal answers, and its report. Assumes nothing.
use Rattle.std.specs.Prelude.{ℕ, ◌+◌, ◌*◌, ◌^◌, Bool, true, false, ◌&&◌, List, ◌++◌, length, drop, leb, eqb}
use Rattle.std.proofs.Math.Option.{none, some}
use Rattle.rules.specs.Limits.{least_out}
use Rattle.rules.specs.Lists.{unbe}
use Rattle.store.specs.Layout.{store_length, size_in}
use Rattle.store.specs.Decode.{decode}
use Rattle.journal.specs.Journal.{slot_count, slots_of, is_short}
use Rattle.slot_replay.specs.Fold.{Replay, replay_from, places_bytes, report_length}

-- what a host is told: the number of records, or 13 and the place
unfoldable pub told : Replay → ℕ
told v = elim v.stopped [ false ↦ v.records | true ↦ 13 * 2 ^ 32 + v.place ]

-- the report: the records, the place, the number of torn slots, their places
unfoldable pub report_bytes : Replay → List ℕ
report_bytes v = unbe 4 v.records ++ (unbe 4 v.place ++ (unbe 4 (length v.torn) ++ places_bytes v.torn))

-- what the call answers, and what it leaves of what it was lent
pub record Replayed : Type 0 where
  pub result : ℕ
  pub store : List ℕ
  pub out : List ℕ
  pub report : List ℕ

unfoldable pub replayed : ℕ → List ℕ → List ℕ → List ℕ → Replayed
replayed r b o t = record { result = r; store = b; out = o; report = t }

-- the rest of the report stays as it was
unfoldable pub reported : Replay → List ℕ → Replayed
reported v t = replayed (told v) v.store v.out (report_bytes v ++ drop (length (report_bytes v)) t)

-- the lengths of the store and of the out buffer as in every call; a journal whose places are told in 32 bits, and a report that has
-- room for all of them
unfoldable pub has_lengths : List ℕ → List ℕ → List ℕ → List ℕ → Bool
has_lengths j b o t =
    eqb (length b) (store_length (size_in b)) && leb (least_out (size_in b)) (length o) && is_short j && leb (report_length (slot_count j)) (length t)

-- 1, then 2, then the replay
unfoldable pub replaying : List ℕ → List ℕ → List ℕ → List ℕ → Replayed
replaying j b o t =
    elim (has_lengths j b o t) [
      | false ↦ replayed (1 * 2 ^ 32) b o t
      | true ↦ elim (decode b) [ none ↦ replayed (2 * 2 ^ 32) b o t | some s ↦ reported (replay_from 0 0 b o (slots_of j)) t ]
    ]
