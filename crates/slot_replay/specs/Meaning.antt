-- What the parts of the code leave: one input handed over, and a replay with its report so far. Assumes nothing.
use Rattle.std.specs.Prelude.{ℕ, ◌+◌, ◌*◌, ◌≤◌, ◌≡◌, Bool, false, List, length}
use Rattle.outgoing.specs.Wrote.{wrote}
use Rattle.calls.specs.Calls.{Gives}
use Rattle.journal.specs.Journal.{slot_count, slots_of}
use Rattle.keeping.specs.Taken.{is_taken}
use Rattle.slot_replay.specs.Handed.{handed}
use Rattle.slot_replay.specs.Fold.{Replay, replay_from, places_bytes}
use Rattle.slot_replay.specs.declared.Ending.{Ending}

-- an input that isn't taken changes nothing
pub record Hands (k : ℕ) (bs b o : List ℕ) (r : ℕ) (b' o' : List ℕ) : Type 0 where
  pub gives : Gives (handed k bs b o) r b' o'
  pub untaken : is_taken r ≡ false → (b' ≡ b) × (o' ≡ o)

-- an ending, with what is left
pub record Ended : Type 0 where
  pub stopped : Bool
  pub records : ℕ
  pub place : ℕ
  pub torn : ℕ
  pub store : List ℕ
  pub out : List ℕ
  pub report : List ℕ

unfoldable pub ended : Ending → List ℕ → List ℕ → List ℕ → Ended
ended e b o t =
    record { stopped = e.stopped; records = e.records; place = e.place; torn = e.torn; store = b; out = o; report = t }

-- what a replay will have come to, with so many torn places in the report already: the others are written behind them
unfoldable pub end_of : ℕ → List ℕ → Replay → Ended
end_of n t v =
    record {
      stopped = v.stopped;
      records = v.records;
      place = v.place;
      torn = n + length v.torn;
      store = v.store;
      out = v.out;
      report = wrote t (12 + 4 * n) (places_bytes v.torn);
    }

-- records and torn slots are no more than the slots passed
pub record Bounded (j : List ℕ) (e : Ending) : Type 0 where
  pub records : e.records ≤ e.place
  pub torn : e.torn ≤ e.place
  pub place : e.place ≤ slot_count j

pub record Replays (j b o t : List ℕ) (e : Ending) (b' o' t' : List ℕ) : Type 0 where
  pub is : ended e b' o' t' ≡ end_of 0 t (replay_from 0 0 b o (slots_of j))
  pub bounded : Bounded j e
