-- The clock that a tally in a store keeps is the first at which it had a quorum in this store, along any schedule of calls from a fresh
-- store. Assumes nothing.
use mathlib.Core.Path.{◌≡◌, subst, refl, sym, ap, ◌∙◌}
use Prim.Native.Nat.{ℕ, suc, ◌≤◌}
use mathlib.Core.Bool.{true}
use mathlib.Core.List.{List, []}
use lib.Dec.{eqb}
use lib.ListN.{length}
use Rattle.rules.specs.Limits.{Size, least_out}
use Rattle.rules.specs.Sizes.{good_settings}
use Rattle.rules.specs.Words.{Certificate, State, fresh}
use Rattle.rules.specs.Inputs.{saying}
use Rattle.rules.specs.Refusals.{done}
use Rattle.laws.proofs.Tests.{by_bool}
use Rattle.agreement.specs.Schedule.{Event, idle, common_tick, tick_of, given, offered_to, happens, settings_of, at, IsLent}
use Rattle.store.specs.Layout.{store_length}
use Rattle.store.specs.Decode.{state_of}
use Rattle.promises.specs.Run.{store_at}
use Rattle.promises.proofs.Carried.{state_carried}
use Rattle.clocks.specs.Runs.{KeepsFirst}
use Rattle.clocks.proofs.Calls.{Clocked, stays, step_clocked, offer_clocked, tick_clocked}
use Rattle.clocks.proofs.First.{keeps_first}

-- an event leaves a station's clocks as a call does, or the station as it is
happens_clocked : (i : ℕ) (e : Event) (s : State) → Clocked s (happens i e s).next
unfolding happens done saying
happens_clocked i idle s = stays s
happens_clocked i common_tick s = tick_clocked s
happens_clocked i (tick_of j) s = by_bool (eqb i j) (λ q. rw (q, happens) (tick_clocked s)) (λ q. rw (q, happens) (stays s))
happens_clocked i (given j bs) s = by_bool (eqb i j) (λ q. rw (q, happens) (step_clocked bs s)) (λ q. rw (q, happens) (stays s))
happens_clocked i (offered_to j b) s = by_bool (eqb i j) (λ q. rw (q, happens) (offer_clocked b s)) (λ q. rw (q, happens) (stays s))

module _ (size : Size) (n D : ℕ) (event : ℕ → Event) (proper : (k : ℕ) → IsLent (event k)) (room : ℕ → List ℕ) (lent : ℕ → ℕ → List ℕ) (i : ℕ)
    (good : good_settings (settings_of size n D i) ≡ true) (long : length (room i) ≡ store_length size) (wide : (k : ℕ) → least_out size ≤ length (lent i k)) where
  -- what its store holds at moment k, which is what the rules' station is
  abbrev held : ℕ → State
  held k = state_of (store_at size n D event room lent i k)

  is_state : (k : ℕ) → held k ≡ at size n D event i k
  is_state k = state_carried size n D event proper room lent i good long wide k

  at_fresh : (at size n D event i 0).tallies ≡ []
  unfolding at fresh
  at_fresh = refl

  at_next : (k : ℕ) → Clocked (at size n D event i k) (at size n D event i (suc k))
  unfolding at
  at_next k = happens_clocked i (event k) (at size n D event i k)

  held_next : (k : ℕ) → Clocked (held k) (held (suc k))
  held_next k =
      subst (λ (s : State). Clocked s (held (suc k))) (sym (is_state k))
      (subst (λ (t : State). Clocked (at size n D event i k) t) (sym (is_state (suc k))) (at_next k))

  pub stores_first_clock : (q : Certificate) → KeepsFirst held q
  stores_first_clock q = keeps_first held q (ap (λ (s : State). s.tallies) (is_state 0) ∙ at_fresh) held_next
