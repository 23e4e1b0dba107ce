-- How a station stops: where there is room the work is done, where there is none it is left undone. Assumes nothing.
use Prim.Native.Nat.{ℕ, ◌*◌, ◌^◌, ◌<◌}
use mathlib.Core.Path.{◌≡◌}
use mathlib.Core.Bool.{true, false}
use mathlib.Core.List.{List}
use lib.Dec.{lit<}
use Rattle.rules.specs.Words as words
use Rattle.rules.specs.Words.{State, stopped, full}
use Rattle.rules.specs.Inputs.{Work, with_phase}
use Rattle.rules.specs.Refusals.{stopping, has_room, if_room, done, result}
use Rattle.store.specs.Decode.{phase_number, Left}
use Rattle.store.specs.Meaning.{course_of}
use Rattle.store.specs.declared.Cause.{Cause}
use Rattle.store.specs.declared.Cause.TheVariants.{Full, Split, Clock}
use Rattle.store.specs.declared.Phase.TheVariants.{Stopped}
use Rattle.acts.specs.Works.{Works}
use Rattle.stops.specs.Answers.{Answers, Mutely}
use Rattle.stops.proofs.Answers.{refused_mutely}

-- ---- a station stops

pub cause_small : (c : Cause) → phase_number (course_of (Stopped c)) < 256 ^ 4
cause_small Full = lit< tt
cause_small Split = lit< tt
cause_small Clock = lit< tt

pub stopped_answers : (k : ℕ) (why : words.Cause) (s : State) {b' : List ℕ} {r : ℕ} → Left b' (with_phase (stopped why) s) → r ≡ k * 2 ^ 32 → Mutely (stopping k why s) b' r
unfolding stopping
stopped_answers k why s l e = refused_mutely k l e

-- ---- room

module _ (s : State) (w : Work) where
  -- there is room, and the work is done
  pub room_answers : {o b' o' : List ℕ} {r : ℕ} → has_room w.now ≡ true → Works w o 0 b' o' r → Answers (if_room s w) o b' o' r
  unfolding if_room done result
  room_answers q k = rw (q, if_room) (record { left = k.left; out = k.says.out; told = k.says.ends })

  -- there is none, and the station stops
  pub full_answers : {b' : List ℕ} {r : ℕ} → has_room w.now ≡ false → Mutely (stopping 6 full s) b' r → Mutely (if_room s w) b' r
  unfolding if_room
  full_answers q k o = rw (q, if_room) (k o)
