-- The least out buffer is room for every call, with either limits: a message or an offer says at most 200 bytes, a tick at most
-- `largest_tick`. Assumes nothing.
use mathlib.Core.Path.{◌≡◌}
use Prim.Native.Nat.{ℕ, ◌≤◌}
use native.Mathlib.Omega.{arith}
use mathlib.Core.Bool.{true}
use mathlib.Core.List.{List}
use lib.ListN.{length}
use borrow.Author.Tests.{eqb-false}
use Rattle.rules.specs.Limits.{last_clock, least_out}
use Rattle.rules.specs.Messages.{outgoing}
use Rattle.rules.specs.Words.{Cause, full, split, clock, stopped, State}
use Rattle.rules.specs.Inputs.{Work, with_phase, handled}
use Rattle.rules.specs.Refusals.{done, refused, stopping, has_room, if_room, step, offer, tick}
use Rattle.rules.specs.WellFormed.{well_formed}
use Rattle.laws.proofs.Bounds.{out_least, out_enough}
use Rattle.laws.proofs.Tests.{by_bool}
use Rattle.laws.proofs.Answers.{by_step, by_offer, by_tick}
use Rattle.kept.specs.Parts.{WellFormed}
use Rattle.kept.proofs.WellFormed.{parts}
use Rattle.kept.proofs.Phases.{clocks_parts}
use Rattle.laws.proofs.Lengths.{bytes, bytes_none}
use Rattle.kept.proofs.Room.{handled_bytes}
use Rattle.kept.proofs.Ticking.{largest_tick, ticked_bytes}

refused_bytes : (most k : ℕ) (s : State) → bytes (refused k s).out ≤ most
unfolding refused
refused_bytes most k s = let z = bytes_none in omega arith

stopping_bytes : (most k : ℕ) (c : Cause) (s : State) → bytes (stopping k c s).out ≤ most
unfolding stopping
stopping_bytes most k c s = refused_bytes most k (with_phase (stopped c) s)

if_room_bytes : (s : State) (w : Work) (k : ℕ) → bytes w.out ≤ k → bytes (if_room s w).out ≤ k
unfolding if_room done
if_room_bytes s w k h =
    by_bool (has_room w.now) (λ q. rw (q, if_room) h) (λ q. rw (q, if_room) (stopping_bytes k 6 full s))

module _ (s : State) where
  pub step_bytes : (bs : List ℕ) → bytes (step bs s).out ≤ 200
  step_bytes bs = by_step (λ o. bytes o.out ≤ 200) s (λ k. refused_bytes 200 k s) bs (λ m q a _. if_room_bytes s (handled m s) 200 (handled_bytes m s))

  pub offer_bytes : (b : ℕ) → bytes (offer b s).out ≤ 200
  offer_bytes b = by_offer (λ o. bytes o.out ≤ 200) s (λ k. refused_bytes 200 k s) b (λ m q. if_room_bytes s (handled m s) 200 (handled_bytes m s))

  pub tick_bytes : WellFormed s → bytes (tick s).out ≤ largest_tick s.settings.size
  tick_bytes f =
      let most = largest_tick s.settings.size in
      by_tick (λ o. bytes o.out ≤ most) s (λ k. refused_bytes most k s) (stopping_bytes most 8 clock s) (stopping_bytes most 7 split s)
      (λ w r c q.
      let k = clocks_parts s f.formed.clocks in
      let n = eqb-false s.clock last_clock c in
      if_room_bytes s w most (ticked_bytes f r (omega arith) q))

  -- ---- the out buffer

  pub step_room : (bs : List ℕ) → length (outgoing (step bs s).out) ≤ least_out s.settings.size
  step_room bs = let h = step_bytes bs in omega (arith, out_least s.settings.size)

  pub offer_room : (b : ℕ) → length (outgoing (offer b s).out) ≤ least_out s.settings.size
  offer_room b = let h = offer_bytes b in omega (arith, out_least s.settings.size)

  pub tick_room : well_formed s ≡ true → length (outgoing (tick s).out) ≤ least_out s.settings.size
  tick_room e = let h = tick_bytes (parts s e) in omega (arith, out_enough s.settings.size)
