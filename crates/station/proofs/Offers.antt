-- The call with an offered name: of 32 bytes or not, barred, taken or not. Assumes nothing.
use Prim.Native.Nat.{ℕ, ◌*◌, ◌^◌, ◌<◌, ◌≤◌}
use mathlib.Core.Path.{◌≡◌, refl, sym, ap, ◌∙◌}
use mathlib.Core.Bool.{true, false}
use mathlib.Core.List.{List}
use mathlib.Core.Option.{none, some}
use native.Mathlib.Omega.{arith}
use lib.ListN.{length}
use borrow.Author.Tests.{eq-eqb, ne_eqb}
use Rattle.rules.specs.Lists.{be}
use Rattle.rules.specs.Words.{message, State}
use Rattle.rules.specs.Inputs.{offered, statement}
use Rattle.rules.specs.Refusals.{refused, if_room, running, offer}
use Rattle.laws.proofs.Bounds.{out_least}
use Rattle.fields.specs.Places.{Bytes, number}
use Rattle.kept.specs.Said.{Sendable}
use Rattle.kept.proofs.Outs.{offer_room}
use Rattle.kept.proofs.Offers.{offered_sendable}
use Rattle.wire.specs.Meaning.{statement_of, message_of}
use Rattle.wire.specs.declared.Statement as code
use Rattle.wire.proofs.Reading.{be_number}
use Rattle.store.specs.Layout.{size_in}
use Rattle.store.specs.Decode.{state_of}
use Rattle.calls.specs.Calls.{refusal, called, offer_called, Gives}
use Rattle.acts.specs.Works.{Formed}
use Rattle.acts.proofs.Works.{formed_parts}
use Rattle.acts.proofs.Statements.{handled_stated}
use Rattle.stops.specs.Answers.{Answers}
use Rattle.refusals.specs.Barred.{barred}
use Rattle.offers.specs.Offers.{offer_of}
use Rattle.std.specs.Prelude.{Option as Maybe, Some, None}
use Rattle.stops.proofs.Answers.{answers_is, refused_answers}
use Rattle.refusals.proofs.Opening.{Opened, opened, lent_formed, lent_gives, barred_gives}

-- ---- the rule

module _ (b : ℕ) (s : State) where
  offer_stopped : running s ≡ false → offer b s ≡ refused 3 s
  unfolding offer
  offer_stopped r = rw (r, offer)

  module _ (r : running s ≡ true) where
    offer_refused : none ≡ offered b s → refused 9 s ≡ offer b s
    unfolding offer
    offer_refused q = rw (r, ← q, offer)

    offer_stated : (x : code.Statement) → some (message (statement_of x none)) ≡ offered b s → if_room s (statement (statement_of x none) s) ≡ offer b s
    unfolding offer message_of
    offer_stated x q = rw (r, ← q, offer) (ap (λ f. if_room s (f s)) (sym (handled_stated x)))

-- ---- the call

module _ (name b o : List ℕ) where
  -- "offered name not 32 bytes"
  pub misnamed_offer : {r : ℕ} → (length name ≡ 32 → ⊥) → r ≡ 1 * 2 ^ 32 → Gives (offer_called name b o) r b o
  unfolding offer_called refusal
  misnamed_offer d q = rw (ne_eqb (length name) 32 d, offer_called) (record { result = q; store = refl; out = refl })

  module _ (l : length name ≡ 32) where
    named : {r : ℕ} {b' o' : List ℕ} → Gives (called (offer (be name)) b o) r b' o' → Gives (offer_called name b o) r b' o'
    unfolding offer_called
    named g = rw (eq-eqb (length name) 32 l, offer_called) g

    module _ (h : Bytes b) {n : ℕ} (e : n ≡ barred b o) where
      pub barred_offer : {r : ℕ} → (n ≡ 0 → ⊥) → r ≡ n * 2 ^ 32 → Gives (offer_called name b o) r b o
      barred_offer d q = named (barred_gives b o (offer (be name)) (offer_stopped (be name)) h (q ∙ ap (◌* 2 ^ 32) e) (λ z. d (e ∙ z)))

      module _ (z : n ≡ 0) where
        opening : Opened b o
        opening = opened b o (sym e ∙ z)

        pub offer_formed : Formed b
        offer_formed = lent_formed b o opening.lent h

        pub offer_out : 200 ≤ length o
        offer_out = omega (arith, opening.lent.room, out_least (size_in b))

        offer_gives : {b' o' : List ℕ} {r : ℕ} → Answers (offer (be name) (state_of b)) o b' o' r → Gives (offer_called name b o) r b' o'
        offer_gives a = named (lent_gives b o opening.lent (offer (be name)) (offer_room (state_of b) (be name)) a)

        module _ {y : ℕ} (w : y ≡ number name 0 32) (f : Maybe code.Statement) (p : offer_of f ≡ offered y (state_of b)) where
          name_number : y ≡ be name
          name_number = w ∙ sym (be_number name ∙ ap (number name 0) l)

          offered_is : offer_of f ≡ offered (be name) (state_of b)
          offered_is = p ∙ ap (λ (k : ℕ). offered k (state_of b)) name_number

          pub refused_offer : {r : ℕ} → f ≡ None → r ≡ 9 * 2 ^ 32 → Gives (offer_called name b o) r b o
          refused_offer i t =
              offer_gives (answers_is (offer_refused (be name) (state_of b) opening.runs (sym (ap offer_of i) ∙ offered_is)) (refused_answers 9 offer_formed.form t o))

          module _ {x : code.Statement} (i : f ≡ Some x) where
            pub taken_sendable : y < 256 ^ 32 → Sendable (state_of b).settings (message (statement_of x none))
            taken_sendable k = offered_sendable (formed_parts offer_formed).formed y (message (statement_of x none)) k (sym p ∙ ap offer_of i)

            pub taken_offer : {b' o' : List ℕ} {r : ℕ} → Answers (if_room (state_of b) (statement (statement_of x none) (state_of b))) o b' o' r → Gives (offer_called name b o) r b' o'
            taken_offer a = offer_gives (answers_is (offer_stated (be name) (state_of b) opening.runs x (sym (ap offer_of i) ∙ offered_is)) a)
