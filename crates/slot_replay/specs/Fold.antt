-- 02, request 1: replaying a journal, as a fold of the calls' meanings over its slots. Assumes nothing.
use Rattle.std.specs.Prelude.{ℕ, suc, ◌+◌, ◌*◌, Bool, true, false, ◌&&◌, List, [], ◌∷◌, ◌++◌, eqb}
use Rattle.rules.specs.Lists.{unbe}
use Rattle.slots.specs.Slots.{Slot, blank, torn, bad, whole}
use Rattle.keeping.specs.Taken.{is_taken}
use Rattle.slot_replay.specs.Handed.{handed}

-- what a replay came to: whether it was stopped, how many records it handed over, the place where it ended, the torn places before
-- that, and what the store and the out buffer hold
pub record Replay : Type 0 where
  pub stopped : Bool
  pub records : ℕ
  pub place : ℕ
  pub torn : List ℕ
  pub store : List ℕ
  pub out : List ℕ

unfoldable pub ends : Bool → ℕ → ℕ → List ℕ → List ℕ → Replay
ends stop c p b o = record { stopped = stop; records = c; place = p; torn = []; store = b; out = o }

-- "read on past a torn slot, and list the torn places"
unfoldable pub skipping : ℕ → Replay → Replay
skipping p v = record { stopped = v.stopped; records = v.records; place = v.place; torn = p ∷ v.torn; store = v.store; out = v.out }

-- from a place on, with so many records before it: "a blank slot or the journal's end ends it well"; "a missing or repeated number,
-- or a slot ending in 5A that doesn't read, stops replay and leaves the state of the records before it", and so does an input
-- that isn't taken
unfoldable pub replay_from : ℕ → ℕ → List ℕ → List ℕ → List Slot → Replay
replay_from c p b o [] = ends false c p b o
replay_from c p b o (blank ∷ ss) = ends false c p b o
replay_from c p b o (torn ∷ ss) = skipping p (replay_from c (suc p) b o ss)
replay_from c p b o (bad ∷ ss) = ends true c p b o
replay_from c p b o (whole q k bs ∷ ss) =
    let x = handed k bs b o in
    elim (eqb q c && is_taken x.result) [ false ↦ ends true c p b o | true ↦ replay_from (suc c) (suc p) x.store x.out ss ]

-- ---- the report

-- places, 4 bytes each
unfoldable pub places_bytes : List ℕ → List ℕ
places_bytes [] = []
places_bytes (p ∷ ps) = unbe 4 p ++ places_bytes ps

abbrev pub report_length : ℕ → ℕ
report_length n = 12 + 4 * n
