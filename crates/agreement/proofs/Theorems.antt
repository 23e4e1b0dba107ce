-- Demand 3, of the rules of one station under every schedule. A: of the logs of two sound stations one begins the other, and each is
-- one that a single clerk could have kept. B: who votes for a propose and stays commits it with all its ancestors. C: no sound
-- station is ever stopped by a due commit. D: no message of a sound station is refused by a sound station. All four again up to any
-- moment, for stations that stop later. Assumes nothing.
use mathlib.Core.Path.{◌≡◌, subst, subst₂, sym, ap, ◌∙◌}
use Prim.Native.Nat.{ℕ, suc, ◌+◌, ◌*◌, ◌≤◌, ◌<◌}
use native.Mathlib.Omega.{arith}
use mathlib.Core.Bool.{true, false}
use mathlib.Core.List.{List, IsPrefix}
use mathlib.Core.Logic.{inl, inr}
use Rattle.rules.specs.Limits.{Size}
use Rattle.rules.specs.Messages.{Message, propose, vote, write, Effect, to_all, to_one}
use Rattle.rules.specs.Words.{in_view, State}
use Rattle.rules.specs.Inputs.{reports}
use Rattle.rules.specs.Refusals.{running, ahead}
use Rattle.laws.proofs.Views.{not_ahead}
use Rattle.agreement.specs.Schedule.{Event, common_tick, given, happens, until, at, clock, IsSaid, Speaks, Sound, SoundRun, RunsTo, Schedule, Linked, lineage, reported, Run, run, OneBegins}
use Rattle.agreement.proofs.Clock.{clock_alike, clock_mono}
use Rattle.agreement.proofs.Group.{Group, at_clock}
use Rattle.agreement.proofs.Follow.{spoken_near}
use Rattle.agreement.proofs.Logs.{logs_begin, log_linked, log_reported}
use Rattle.agreement.proofs.Stays.{commits_lineage}
use Rattle.agreement.proofs.Needed.{to_group}
use Rattle.agreement.proofs.Until.{until_before, at_until, clock_until, reported_until, says_on}
use Rattle.agreement.proofs.NoSplit.{never_split}

module _ (size : Size) (n D : ℕ) (event : ℕ → Event) (faulty : ℕ) (height_of parent_of : ℕ → ℕ) (X : Schedule (run size n D event) faulty height_of parent_of) where
  abbrev R : Run
  R = run size n D event

  -- Theorem C: a sound station is never stopped
  pub sound_run : SoundRun R faulty
  sound_run = never_split size n D event faulty height_of parent_of X.premises X.room

  abbrev group : Group
  group = to_group size n D event faulty height_of parent_of X.premises sound_run

  -- Theorem A: of the logs of two sound stations, at whatever moments, one begins the other
  pub logs_agree : (i j : ℕ) → Sound R faulty i → Sound R faulty j → (k l : ℕ)
      → OneBegins (at size n D event i k).log (at size n D event j l).log
  logs_agree i j hi hj k l = logs_begin group i j hi hj k l

  -- a sound log is linked by parent to genesis, and was reported name by name, each once, in order, with heights 1, 2, 3, ..
  pub one_clerk : (i : ℕ) → Sound R faulty i → (k : ℕ)
      → Linked parent_of 0 (at size n D event i k).log × (reported R i k ≡ reports 1 (at size n D event i k).log)
  one_clerk i ok k = (log_linked group i ok k, log_reported group i ok k)

  -- Theorem B: a sound station that says a propose and its vote at event j, at clock t, and is in that view as the tick to t+2D+1
  -- begins, has that block and all its ancestors in its log after that tick
  pub vote_commits : (r : ℕ) → Sound R faulty r → (j v h b p m a : ℕ)
      → IsSaid R r j (to_all (propose v h b p m a)) → IsSaid R r j (to_all (vote v h b r))
      → (k : ℕ) → event k ≡ common_tick → clock event r k ≡ clock event r (suc j) + 2 * D → (at size n D event r k).phase ≡ in_view → (at size n D event r k).view ≡ v
      → IsPrefix (lineage parent_of h b) (at size n D event r (suc k)).log
  vote_commits r ok j v h b p m a s w k e d ph vw =
      let alike = clock_alike event X.premises.common r in
      commits_lineage group r j k v h b p m a (record { ok = ok; statement = s; ballot = w; tick = e; due = sym (alike k) ∙ d ∙ ap (◌+ 2 * D) (alike (suc j)); phase = ph; view = vw })

  -- Theorem D: a message that a sound station said at event l, to all or to whomever, is at no later moment too far ahead of a sound
  -- station j; where event k hands it over to j, the answer is 0
  pub sound_taken : (i j : ℕ) → Sound R faulty i → Sound R faulty j → (l k : ℕ) (m : Message) → Speaks R i l m → l < k
      → (ahead m (at size n D event j k) ≡ false) × (event k ≡ given j (write m) → (happens j (event k) (at size n D event j k)).number ≡ 0)
  sound_taken i j hi hj l k m s o =
      let v = spoken_near group i j hi hj l m s k (clock_mono event (suc l) k o) in
      (not_ahead m (at size n D event j k) v, λ e. group.takes i j hi hj l k m s o e v)

  -- the clock in a sound station's state is the clock of the schedule
  pub clock_held : (i : ℕ) → Sound R faulty i → (k : ℕ) → (at size n D event i k).clock ≡ clock event i k
  clock_held i ok k = at_clock group i ok k ∙ sym (clock_alike event X.premises.common i k)

-- ---- up to a moment

-- A, B, C and D up to moment K. What is asked is asked of the schedule up to K alone: a station that is stopped later is sound until
-- then, and its log so far is one of those that agree
module _ (size : Size) (n D : ℕ) (event : ℕ → Event) (faulty : ℕ) (height_of parent_of : ℕ → ℕ) (K : ℕ) (X : Schedule (run size n D (until K event)) faulty height_of parent_of) where
  -- the run that goes on
  abbrev Whole : Run
  Whole = run size n D event

  pub sound_run_until : RunsTo Whole faulty K
  sound_run_until i ok k l = subst (λ (s : State). running s ≡ true) (at_until size n D event K i k l) (sound_run size n D (until K event) faulty height_of parent_of X i ok k)

  pub logs_agree_until : (i j : ℕ) → Sound Whole faulty i → Sound Whole faulty j → (k l : ℕ) → k ≤ K → l ≤ K
      → OneBegins (at size n D event i k).log (at size n D event j l).log
  logs_agree_until i j hi hj k l u v =
      subst₂ (λ (s t : State). OneBegins s.log t.log) (at_until size n D event K i k u) (at_until size n D event K j l v)
      (logs_agree size n D (until K event) faulty height_of parent_of X i j hi hj k l)

  pub one_clerk_until : (i : ℕ) → Sound Whole faulty i → (k : ℕ) → k ≤ K
      → Linked parent_of 0 (at size n D event i k).log × (reported Whole i k ≡ reports 1 (at size n D event i k).log)
  one_clerk_until i ok k l =
      subst₂ (λ (s : State) (o : List Effect). Linked parent_of 0 s.log × (o ≡ reports 1 s.log)) (at_until size n D event K i k l) (reported_until size n D event K i k l)
      (one_clerk size n D (until K event) faulty height_of parent_of X i ok k)

  pub vote_commits_until : (r : ℕ) → Sound Whole faulty r → (j v h b p m a : ℕ)
      → IsSaid Whole r j (to_all (propose v h b p m a)) → IsSaid Whole r j (to_all (vote v h b r))
      → (k : ℕ) → k < K → j < k → event k ≡ common_tick → clock event r k ≡ clock event r (suc j) + 2 * D → (at size n D event r k).phase ≡ in_view
      → (at size n D event r k).view ≡ v → IsPrefix (lineage parent_of h b) (at size n D event r (suc k)).log
  vote_commits_until r ok j v h b p m a s w k l e t d ph vw =
      let here = at_until size n D event K r k (omega arith) in
      subst (λ (u : State). IsPrefix (lineage parent_of h b) u.log) (at_until size n D event K r (suc k) l)
      (vote_commits size n D (until K event) faulty height_of parent_of X r ok j v h b p m a (says_on size n D event K r j _ (omega arith) s) (says_on size n D event K r j _ (omega arith) w)
      k (until_before K event k l ∙ t)
      (clock_until size n D event K r k (omega arith) ∙ d ∙ ap (◌+ 2 * D) (sym (clock_until size n D event K r (suc j) (omega arith))))
      (ap (λ (u : State). u.phase) here ∙ ph) (ap (λ (u : State). u.view) here ∙ vw))

  pub sound_taken_until : (i j : ℕ) → Sound Whole faulty i → Sound Whole faulty j → (l k : ℕ) (m : Message) → Speaks Whole i l m → l < k → k < K
      → (ahead m (at size n D event j k) ≡ false) × (event k ≡ given j (write m) → (happens j (event k) (at size n D event j k)).number ≡ 0)
  sound_taken_until i j hi hj l k m s o u =
      let here = at_until size n D event K j k (omega arith) in
      let now = until_before K event k u in
      let (a, b) = sound_taken size n D (until K event) faulty height_of parent_of X i j hi hj l k m (spoken s) o in
      (subst (λ (x : State). ahead m x ≡ false) here a, λ e. subst₂ (λ (y : Event) (x : State). (happens j y x).number ≡ 0) now here (b (now ∙ e)))
    where
      spoken : Speaks Whole i l m → Speaks (run size n D (until K event)) i l m
      spoken (inl x) = inl (says_on size n D event K i l (to_all m) (omega arith) x)
      spoken (inr (a, x)) = inr (a, says_on size n D event K i l (to_one a m) (omega arith) x)
