-- A vote, a status or a blame where there is room, and where there is none. Assumes nothing.
use Prim.Native.Nat.{ℕ}
use mathlib.Core.Path.{◌≡◌, sym, ◌∙◌, subst}
use mathlib.Core.Bool.{Bool, true, false, ◌&&◌}
use mathlib.Core.List.{List}
use borrow.Author.Tests.{le-leb}
use Rattle.rules.specs.Limits.{most_statements, most_tallies}
use Rattle.rules.specs.Words.{State, full, Certificate, Opener}
use Rattle.rules.specs.Inputs.{saying, with_phase, with_blames, is_in, quit, blamed, blame_full, blaming, tallied}
use Rattle.rules.specs.Refusals.{stopping, has_room, if_room}
use Rattle.laws.proofs.Tests.{by_bool}
use Rattle.laws.proofs.Truths.{both}
use Rattle.store.specs.Decode.{state_of, Left}
use Rattle.storing.specs.Records.{fitting, Tried}
use Rattle.acts.specs.Works.{Formed, Works}
use Rattle.acts.proofs.Works.{formed_parts, works_none}
use Rattle.stops.specs.Answers.{Answers, Mutely}
use Rattle.stops.proofs.Stops.{room_answers, full_answers}

-- a vote or a status found room, or the station stops
module _ (j : Opener) (t : Certificate) (s : State) {b' : List ℕ} {f : Bool} (k : Tried (tallied j t s).now s b' f) where
  pub tallied_answers : f ≡ true → Mutely (if_room s (tallied j t s)) b' 0
  unfolding fitting tallied saying
  tallied_answers q o =
      let h : has_room (tallied j t s).now ≡ true = sym k.room ∙ q in
      let l : Left b' (tallied j t s).now = rw (h, fitting) at k.left in
      room_answers s (tallied j t s) h (works_none o 0 l)

  pub tallied_stops : f ≡ false → {b'' : List ℕ} {r : ℕ} → Mutely (stopping 6 full (state_of b')) b'' r → Mutely (if_room s (tallied j t s)) b'' r
  unfolding fitting
  tallied_stops q {b''} {r} a =
      let h : has_room (tallied j t s).now ≡ false = sym k.room ∙ q in
      let l : Left b' s = rw (h, fitting) at k.left in
      full_answers s (tallied j t s) h (subst (λ (z : State). Mutely (stopping 6 full z) b'' r) l.is a)

-- a blame needs no record
blaming_room : (v m : ℕ) (s : State) → has_room s ≡ true → has_room (blaming v m s).now ≡ true
unfolding blaming blamed with_blames quit with_phase saying has_room
blaming_room v m s h = by_bool (is_in v (blamed v m s) && blame_full v (blamed v m s)) (λ q. rw (q, blaming) h) (λ q. rw (q, blaming) h)

formed_room : {b : List ℕ} → Formed b → has_room (state_of b) ≡ true
unfolding has_room
formed_room {b} k =
    let w = formed_parts k in
    let z = (state_of b).settings.size in
    both (le-leb _ (most_statements z) w.few_statements) (le-leb _ (most_tallies z) w.few_tallies)

pub blaming_answers : {b o b' o' : List ℕ} {r : ℕ} (v m : ℕ) → Formed b → Works (blaming v m (state_of b)) o 0 b' o' r
    → Answers (if_room (state_of b) (blaming v m (state_of b))) o b' o' r
blaming_answers {b} v m k w = room_answers (state_of b) (blaming v m (state_of b)) (blaming_room v m (state_of b) (formed_room k)) w
