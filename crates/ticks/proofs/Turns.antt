-- A tick, in 01's order: the clock at its end, a commit that differs, no room, or its work. What decides it is known from the
-- store before its clock moves on. Assumes nothing.
use Prim.Native.Nat.{ℕ, ◌+◌, ◌*◌, ◌^◌, ◌≤◌, ◌<◌}
use mathlib.Core.Path.{◌≡◌, sym, ap, ◌∙◌, subst}
use mathlib.Core.Bool.{Bool, true, false, not}
use mathlib.Core.List.{List}
use mathlib.Core.Option.{none, some, map}
use native.Mathlib.Omega.{arith}
use lib.ListN.{length}
use borrow.Author.Tests.{eq-eqb, ne_eqb, not-true, not-false}
use Rattle.rules.specs.Limits.{last_clock, least_out, most_statements_large}
use Rattle.rules.specs.Words as words
use Rattle.rules.specs.Words.{State, clock, split}
use Rattle.rules.specs.Inputs.{Work, ◌▸◌, with_clock, logging, complain, lead, enter, ticked}
use Rattle.rules.specs.Refusals.{refused, stopping, has_room, if_room, running, tick}
use Rattle.store.specs.Layout.{size_in}
use Rattle.store.specs.Decode.{state_of}
use Rattle.store.specs.Meaning.{Loads}
use Rattle.store.specs.declared.Station.{Station}
use Rattle.store.proofs.Loaded.{loaded_clock}
use Rattle.kept.proofs.Facts.{clocks_of}
use Rattle.commit.specs.Outcome.{tick_log, Gained, Committed}
use Rattle.std.specs.Prelude.{Option as Maybe, Some}
use Rattle.acts.specs.Works.{Formed, Works}
use Rattle.acts.proofs.Works.{formed_parts}
use Rattle.reports.specs.Gains.{grown_log}
use Rattle.stops.specs.Answers.{Answers, Mutely}
use Rattle.moves.specs.Turns.{later, turning, Clear}
use Rattle.moves.proofs.Turns.{turning_room, turning_ticked}
use Rattle.stops.proofs.Answers.{answers_is, refused_answers}
use Rattle.stops.proofs.Stops.{room_answers, full_answers}

-- ---- what the commits answer

pub gained_by : {b t : List ℕ} {r : Maybe ℕ} {n : ℕ} → Committed b t r → r ≡ Some n → Gained b t n
gained_by {b} {t} g e = subst (Committed b t) e g

-- ---- the rule

module _ (s : State) where
  tick_stopped : running s ≡ false → tick s ≡ refused 3 s
  unfolding tick
  tick_stopped r = rw (r, tick)

  module _ (r : running s ≡ true) where
    tick_end : s.clock ≡ last_clock → stopping 8 clock s ≡ tick s
    unfolding tick
    tick_end q = rw (r, eq-eqb s.clock last_clock q, tick)

    module _ (n : s.clock ≡ last_clock → ⊥) where
      tick_split : ticked s ≡ none → stopping 7 split s ≡ tick s
      unfolding tick
      tick_split q = rw (r, ne_eqb s.clock last_clock n, q, tick)

      tick_works : (w : Work) → ticked s ≡ some w → if_room s w ≡ tick s
      unfolding tick
      tick_works w q = rw (r, ne_eqb s.clock last_clock n, q, tick)

ticked_none : (b : List ℕ) → tick_log b ≡ none → ticked (state_of b) ≡ none
unfolding ticked tick_log
ticked_none b e = let now = with_clock ((state_of b).clock + 1) (state_of b) in ap (map (λ l. logging l now ▸ complain ▸ lead ▸ enter)) e

-- a station that stopped
pub stops_tick : {b : List ℕ} → Formed b → running (state_of b) ≡ false → {r : ℕ} → r ≡ 3 * 2 ^ 32 → Mutely (tick (state_of b)) b r
stops_tick {b} k q e o = answers_is (sym (tick_stopped (state_of b) q)) (refused_answers 3 k.form e o)

module _ {b : List ℕ} (k : Formed b) (y : running (state_of b) ≡ true) (s : Station) (e : Loads s b) where
  pub ends_tick : s.clock ≡ last_clock → {b' : List ℕ} {r : ℕ} → Mutely (stopping 8 clock (state_of b)) b' r → Mutely (tick (state_of b)) b' r
  ends_tick q a o = answers_is (tick_end (state_of b) y (sym (loaded_clock s b e) ∙ q)) (a o)

  module _ (n : s.clock ≡ last_clock → ⊥) where
    goes_on : (state_of b).clock ≡ last_clock → ⊥
    goes_on q = n (loaded_clock s b e ∙ q)

    pub clock_left : (state_of b).clock < last_clock
    clock_left = omega (arith, (clocks_of (formed_parts k).formed).last, goes_on)

    pub splits_tick : tick_log b ≡ none → {b' : List ℕ} {r : ℕ} → Mutely (stopping 7 split (state_of b)) b' r → Mutely (tick (state_of b)) b' r
    splits_tick q a o = answers_is (tick_split (state_of b) y goes_on (ticked_none b q)) (a o)

    module _ {t : List ℕ} {m : ℕ} (g : Gained b t m) where
      abbrev work : Work
      work = turning (grown_log b t m) (state_of b)

      works_tick : if_room (state_of b) work ≡ tick (state_of b)
      works_tick = tick_works (state_of b) y goes_on work (turning_ticked k clock_left g)

      pub clears : length t ≡ most_statements_large → {f : Bool} → f ≡ has_room (lead (later (state_of b))).now → f ≡ true → {room : ℕ} → least_out (size_in b) ≤ room
          → Clear b t (s.clock + 1) m room
      clears l p h r = record { formed = k; next = ap (◌+ 1) (loaded_clock s b e); last = clock_left; gained = g; long = l; fits = sym p ∙ h; space = r }

      pub full_tick : {f : Bool} → f ≡ has_room (lead (later (state_of b))).now → not f ≡ true → {b' : List ℕ} {r : ℕ} → Mutely (stopping 6 words.full (state_of b)) b' r
          → Mutely (tick (state_of b)) b' r
      full_tick {f} p d a o =
          answers_is works_tick (full_answers (state_of b) work (turning_room k clock_left g ∙ sym p ∙ not-true f d) a o)

      pub done_tick : {f : Bool} → f ≡ has_room (lead (later (state_of b))).now → not f ≡ false → {o b' o' : List ℕ} {r : ℕ} → Works work o 0 b' o' r
          → Answers (tick (state_of b)) o b' o' r
      done_tick {f} p d w =
          answers_is works_tick (room_answers (state_of b) work (turning_room k clock_left g ∙ sym p ∙ not-false f d) w)
