-- A message, in 01's order with 02's number: unreadable, not allowed, too far ahead, handled by its kind. Assumes nothing.
use Prim.Native.Nat.{ℕ, suc, ◌+◌, ◌*◌, ◌^◌, ◌≤◌}
use mathlib.Core.Path.{◌≡◌, sym, ap, ◌∙◌}
use mathlib.Core.Bool.{Bool, true, false, not}
use mathlib.Core.List.{List, [], ◌∷◌}
use mathlib.Core.Option.{none, some}
use native.Mathlib.Omega.{arith}
use lib.ListN.{length}
use lib.Dec.{ltb}
use borrow.Author.Tests.{not-true, not-false}
use Rattle.rules.specs.Sizes as sizes
use Rattle.rules.specs.Messages as messages
use Rattle.rules.specs.Messages.{view_of, read, allowed}
use Rattle.rules.specs.Words.{State}
use Rattle.rules.specs.Refusals.{refused, running, ahead, heard, step}
use Rattle.laws.proofs.Bytes as rules
use Rattle.laws.proofs.Bounds.{out_least}
use Rattle.fields.specs.Places.{Bytes}
use Rattle.settings.specs.Made.{settings_of}
use Rattle.kept.specs.Said.{Sendable}
use Rattle.kept.proofs.Outs.{step_room}
use Rattle.kept.proofs.Sendable.{read_sendable}
use Rattle.wire.specs.Meaning.{message_of, read_of}
use Rattle.wire.specs.declared.Message.{Message}
use Rattle.std.specs.Prelude.{Option, Some, None}
use Rattle.store.specs.Layout.{size_in}
use Rattle.store.specs.Decode.{state_of}
use Rattle.store.specs.Meaning.{Loads}
use Rattle.store.specs.declared.Station.{Station}
use Rattle.store.proofs.Loaded.{loaded_settings, loaded_view}
use Rattle.calls.specs.Calls.{step_called, Gives}
use Rattle.acts.specs.Works.{Formed}
use Rattle.stops.specs.Answers.{Answers}
use Rattle.refusals.specs.Barred.{barred}
use Rattle.stops.proofs.Answers.{answers_is, refused_answers}
use Rattle.refusals.proofs.Opening.{Opened, opened, lent_formed, lent_gives, barred_gives}

-- ---- the rule

module _ (bs : List ℕ) (s : State) where
  step_stopped : running s ≡ false → step bs s ≡ refused 3 s
  unfolding step
  step_stopped r = rw (r, step)

  module _ (r : running s ≡ true) where
    step_unreadable : read bs ≡ none → refused 4 s ≡ step bs s
    unfolding step
    step_unreadable q = rw (r, q, step)

    module _ (m : messages.Message) (q : read bs ≡ some m) where
      step_forbidden : allowed s.settings m ≡ false → refused 5 s ≡ step bs s
      unfolding step
      step_forbidden a = rw (r, q, step, a)

      module _ (a : allowed s.settings m ≡ true) where
        step_ahead : ahead m s ≡ true → refused 11 s ≡ step bs s
        unfolding step
        step_ahead w = rw (r, q, step, a, w)

        step_heard : ahead m s ≡ false → heard m s ≡ step bs s
        unfolding step
        step_heard w = rw (r, q, step, a, w)

-- bytes by their places are bytes one by one
bytes_all : (bs : List ℕ) → Bytes bs → rules.Bytes bs
bytes_all [] h = rules.none
bytes_all (x ∷ bs) h = rules.one (h 0).fits (bytes_all bs (λ i. h (suc i)))

-- ---- the call

module _ (bs b o : List ℕ) (h : Bytes b) {n : ℕ} (e : n ≡ barred b o) where
  pub barred_step : {r : ℕ} → (n ≡ 0 → ⊥) → r ≡ n * 2 ^ 32 → Gives (step_called bs b o) r b o
  unfolding step_called
  barred_step d q = barred_gives b o (step bs) (step_stopped bs) h (q ∙ ap (◌* 2 ^ 32) e) (λ z. d (e ∙ z))

  module _ (z : n ≡ 0) where
    opening : Opened b o
    opening = opened b o (sym e ∙ z)

    pub step_formed : Formed b
    step_formed = lent_formed b o opening.lent h

    pub step_long : 68 ≤ length b
    step_long = omega (arith, opening.lent.long)

    pub step_out : 200 ≤ length o
    step_out = omega (arith, opening.lent.room, out_least (size_in b))

    step_gives : {b' o' : List ℕ} {r : ℕ} → Answers (step bs (state_of b)) o b' o' r → Gives (step_called bs b o) r b' o'
    unfolding step_called
    step_gives a = lent_gives b o opening.lent (step bs) (step_room (state_of b) bs) a

    module _ {q : Option Message} (p : read_of q ≡ read bs) where
      pub unreadable_step : {r : ℕ} → q ≡ None → r ≡ 4 * 2 ^ 32 → Gives (step_called bs b o) r b o
      unfolding read_of
      unreadable_step i t =
          step_gives (answers_is (step_unreadable bs (state_of b) opening.runs (sym p ∙ ap read_of i)) (refused_answers 4 step_formed.form t o))

      module _ {m : Message} (i : q ≡ Some m) (s : Station) (l : Loads s b) {y : Bool} (a : y ≡ allowed (settings_of s.settings) (message_of m)) where
        was_read : read bs ≡ some (message_of m)
        unfolding read_of
        was_read = sym p ∙ ap read_of i

        is_allowed_lem : allowed (state_of b).settings (message_of m) ≡ y
        is_allowed_lem = sym (a ∙ ap (λ (g : sizes.Settings). allowed g (message_of m)) (loaded_settings s b l))

        pub forbidden_step : {r : ℕ} → not y ≡ true → r ≡ 5 * 2 ^ 32 → Gives (step_called bs b o) r b o
        forbidden_step d t =
            step_gives (answers_is (step_forbidden bs (state_of b) opening.runs (message_of m) was_read (is_allowed_lem ∙ not-true y d)) (refused_answers 5 step_formed.form t o))

        module _ (d : not y ≡ false) where
          pub read_may : Bytes bs → Sendable (state_of b).settings (message_of m)
          read_may k = read_sendable (state_of b).settings bs (message_of m) (bytes_all bs k) was_read (is_allowed_lem ∙ not-false y d)

          module _ {x : Bool} (c : x ≡ ltb (s.view + 1) (view_of (message_of m))) where
            is_ahead : ahead (message_of m) (state_of b) ≡ x
            unfolding ahead
            is_ahead = sym (c ∙ ap (λ (v : ℕ). ltb (v + 1) (view_of (message_of m))) (loaded_view s b l))

            pub ahead_step : {r : ℕ} → x ≡ true → r ≡ 11 * 2 ^ 32 → Gives (step_called bs b o) r b o
            ahead_step w t =
                step_gives (answers_is (step_ahead bs (state_of b) opening.runs (message_of m) was_read (is_allowed_lem ∙ not-false y d) (is_ahead ∙ w)) (refused_answers 11 step_formed.form t o))

            pub handled_step : {b' o' : List ℕ} {r : ℕ} → x ≡ false → Answers (heard (message_of m) (state_of b)) o b' o' r → Gives (step_called bs b o) r b' o'
            handled_step w k = step_gives (answers_is (step_heard bs (state_of b) opening.runs (message_of m) was_read (is_allowed_lem ∙ not-false y d) (is_ahead ∙ w)) k)
