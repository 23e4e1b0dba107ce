-- Every state of a run is well formed, and what a station sends can be read by each and is allowed. Assumes nothing.
use Prim.Native.Nat.{ℕ, zero, suc, ◌%◌, ◌<◌}
use mathlib.Core.Path.{◌≡◌, subst, refl, sym, ◌∙◌}
use mathlib.Core.Bool.{true, false, ◌&&◌}
use mathlib.Core.List.{[]}
use mathlib.Core.Logic.{inl, inr}
use mathlib.Core.Option.{some}
use lib.Dec.{ltb, eqb}
use borrow.Author.Tests.{lt-ltb}
use Rattle.rules.specs.Limits.{Size, least_stations, most_stations, least_delay, most_delay}
use Rattle.rules.specs.Lists.{within}
use Rattle.rules.specs.Sizes.{Settings, good_settings, leader, quorum}
use Rattle.rules.specs.Messages.{Message, new_view, propose, vote, blame, blame_set, status, read, write, mask_allowed, certificate_allowed, allowed}
use Rattle.rules.specs.Words.{State, fresh}
use Rattle.rules.specs.Inputs.{saying}
use Rattle.rules.specs.Refusals.{Outcome, done, step, offer, tick}
use Rattle.laws.proofs.Tests.{by_bool, and_left}
use Rattle.laws.proofs.Truths.{both}
use Rattle.kept.specs.Parts.{WellFormed}
use Rattle.kept.specs.Said.{Each, Sendable, Sayable}
use Rattle.kept.proofs.WellFormed.{fresh_formed}
use Rattle.kept.proofs.Calls.{Kept, step_kept, offer_kept, tick_kept, sent_read}
use Rattle.kept.proofs.Lists.{each_mem}
use Rattle.agreement.specs.Schedule.{Event, idle, common_tick, tick_of, given, offered_to, happens, settings_of, at, out, IsLent, Speaks, run}

-- good settings are good for every own number below n
pub settings_alike : (size : Size) (n D i : ℕ) → good_settings (settings_of size n D 0) ≡ true → i < n → good_settings (settings_of size n D i) ≡ true
unfolding good_settings
settings_alike size n D i g l =
    let a = eqb (n % 2) 1 && within least_stations most_stations n && within least_delay most_delay D in
    both (and_left a (ltb 0 n) g) (lt-ltb i n l)

-- what is allowed doesn't depend on the own number
allowed_alike : (size : Size) (n D i j : ℕ) (m : Message) → allowed (settings_of size n D i) m ≡ allowed (settings_of size n D j) m
unfolding allowed mask_allowed certificate_allowed quorum leader
allowed_alike size n D i j (new_view v h b c m a) = refl
allowed_alike size n D i j (propose v h b p m a) = refl
allowed_alike size n D i j (vote v h b a) = refl
allowed_alike size n D i j (blame v a) = refl
allowed_alike size n D i j (blame_set v m) = refl
allowed_alike size n D i j (status h b c m) = refl

nothing_kept : {s : State} → WellFormed s → Kept s (done (saying s []))
unfolding done saying
nothing_kept w = record { settings = refl; formed = w; said = tt }

-- a call to station j, seen from station i
one_kept : (i j : ℕ) {s : State} (o : Outcome) → WellFormed s → Kept s o → Kept s (elim (eqb i j) [ true ↦ o | false ↦ done (saying s []) ])
one_kept i j o w k = by_bool (eqb i j) (λ q. rw q k) (λ q. rw q (nothing_kept w))

event_kept : (i : ℕ) (e : Event) (s : State) → IsLent e → WellFormed s → Kept s (happens i e s)
unfolding happens
event_kept i idle s h w = nothing_kept w
event_kept i common_tick s h w = tick_kept w
event_kept i (tick_of j) s h w = one_kept i j (tick s) w (tick_kept w)
event_kept i (given j bs) s h w = one_kept i j (step bs s) w (step_kept w bs h)
event_kept i (offered_to j b) s h w = one_kept i j (offer b s) w (offer_kept w b h)

module _ (size : Size) (n D : ℕ) (event : ℕ → Event) (lent : (k : ℕ) → IsLent (event k)) (i : ℕ) (good : good_settings (settings_of size n D i) ≡ true) where
  pub formed_at : (k : ℕ) → WellFormed (at size n D event i k)
  unfolding at
  formed_at zero = fresh_formed (settings_of size n D i) good
  formed_at (suc k) = (event_kept i (event k) (at size n D event i k) (lent k) (formed_at k)).formed

  pub settings_at : (k : ℕ) → (at size n D event i k).settings ≡ settings_of size n D i
  unfolding at fresh
  settings_at zero = refl
  settings_at (suc k) = (event_kept i (event k) (at size n D event i k) (lent k) (formed_at k)).settings ∙ settings_at k

  -- what it says may be said
  pub said_at_lem : (k : ℕ) → Each (Sayable (settings_of size n D i)) (out size n D event i k)
  unfolding out
  said_at_lem k =
      subst (λ (g : Settings). Each (Sayable g) (out size n D event i k)) (settings_at k)
      (event_kept i (event k) (at size n D event i k) (lent k) (formed_at k)).said

  sent_at : (k : ℕ) (m : Message) → Speaks (run size n D event) i k m → Sendable (settings_of size n D i) m
  sent_at k m (inl s) = each_mem (Sayable (settings_of size n D i)) (said_at_lem k) s
  sent_at k m (inr (j, s)) = (each_mem (Sayable (settings_of size n D i)) (said_at_lem k) s).1

  -- what it sends can be read by each, and is allowed
  pub sent_allowed : (j k : ℕ) (m : Message) → Speaks (run size n D event) i k m
      → (read (write m) ≡ some m) × (allowed (settings_of size n D j) m ≡ true)
  sent_allowed j k m s = let e = sent_at k m s in (sent_read e, sym (allowed_alike size n D i j m) ∙ e.is_allowed)
