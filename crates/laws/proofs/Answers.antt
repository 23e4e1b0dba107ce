-- What a call answers, by cases, once for each call: a refusal that changes nothing, a stop, or what the rule does where there is room.
-- Assumes nothing.
use Prim.Native.Nat.{ℕ}
use mathlib.Core.Path.{◌≡◌}
use mathlib.Core.Bool.{true, false}
use mathlib.Core.List.{List}
use mathlib.Core.Option.{some}
use lib.Dec.{eqb}
use Rattle.rules.specs.Limits.{last_clock}
use Rattle.rules.specs.Messages.{Message, read, allowed}
use Rattle.rules.specs.Words.{split, clock, State}
use Rattle.rules.specs.Inputs.{Work, handled, offered, ticked}
use Rattle.rules.specs.Refusals.{Outcome, refused, stopping, if_room, running, ahead, used_up, heard, step, offer, tick}
use Rattle.laws.proofs.Tests.{by_bool, by_option}

module _ {ℓ} (P : Outcome → Type ℓ) (s : State) (unchanged : (k : ℕ) → P (refused k s)) where
  pub by_step : (bs : List ℕ) → ((m : Message) → read bs ≡ some m → allowed s.settings m ≡ true → used_up m s ≡ false → P (if_room s (handled m s))) → P (step bs s)
  unfolding step heard
  by_step bs f =
      by_bool (running s)
      (λ r.
      by_option (read bs) (λ q. rw (r, q, step) (unchanged 4)) λ m q.
      by_bool (allowed s.settings m)
      (λ a.
      by_bool (ahead m s) (λ w. rw (r, q, a, w, step) (unchanged 11)) λ w.
      by_bool (used_up m s) (λ u. rw (r, q, a, w, step, u, heard) (unchanged 12)) (λ u. rw (r, q, a, w, step, u, heard) (f m q a u)))
      (λ a. rw (r, q, a, step) (unchanged 5)))
      (λ r. rw (r, step) (unchanged 3))

  pub by_offer : (b : ℕ) → ((m : Message) → offered b s ≡ some m → P (if_room s (handled m s))) → P (offer b s)
  unfolding offer
  by_offer b f =
      by_bool (running s) (λ r. by_option (offered b s) (λ q. rw (r, q, offer) (unchanged 9)) (λ m q. rw (r, q, offer) (f m q))) (λ r. rw (r, offer) (unchanged 3))

  pub by_tick : P (stopping 8 clock s) → P (stopping 7 split s)
      → ((w : Work) → running s ≡ true → eqb s.clock last_clock ≡ false → ticked s ≡ some w → P (if_room s w)) → P (tick s)
  unfolding tick
  by_tick late differs f =
      by_bool (running s)
      (λ r.
      by_bool (eqb s.clock last_clock) (λ c. rw (r, c, tick) late)
      (λ c. by_option (ticked s) (λ q. rw (r, c, q, tick) differs) (λ w q. rw (r, c, q, tick) (f w r c q))))
      (λ r. rw (r, tick) (unchanged 3))
