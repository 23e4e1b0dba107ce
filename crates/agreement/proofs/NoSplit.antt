-- Refusal 7 never happens to a station that was sound until that tick. The schedule is taken up to the tick at which
-- it would happen; until then all sound stations run, so all that was proved holds there, and what is due agrees with the log. Assumes nothing.
use mathlib.Core.Path.{◌≡◌, subst, refl, sym, ap, ◌∙◌}
use Prim.Native.Nat.{ℕ, zero, suc, ◌+◌, ◌≤◌, ◌<◌}
use native.Mathlib.Omega.{arith}
use native.Mathlib.Decide.{dec_lt, dec_le}
use mathlib.Core.Bool.{true, false}
use mathlib.Core.Option.{none}
use lib.Dec.{ltb, eqb}
use borrow.Author.Tests.{lt-ltb}
use Rattle.rules.specs.Limits.{Size}
use Rattle.rules.specs.Words.{full, split, clock as late, Phase, in_view, waiting, stopped, State, fresh}
use Rattle.rules.specs.Inputs.{saying}
use Rattle.rules.specs.Refusals.{done, running}
use Rattle.laws.proofs.Tests.{by_bool, no_bool}
use Rattle.laws.proofs.Splits.{Split, due_commits, step_split, offer_split, tick_split}
use Rattle.agreement.specs.Schedule.{Event, idle, common_tick, tick_of, given, offered_to, happens, ticks, IsCommon, until, at, clock, Sound, NeverFull, SoundRun, RunsTo, Premises, Run, run}
use Rattle.agreement.proofs.Clock.{clock_suc, one_tick}
use Rattle.agreement.proofs.Group.{Reaches, Group}
use Rattle.agreement.proofs.Logs.{commits_agree}
use Rattle.agreement.proofs.Needed.{delivered, group_of}
use Rattle.agreement.proofs.Until.{not_lt, until_before, at_until, at_after, clock_until, clock_after, sends_back, premises_until}

still : (s : State) → running s ≡ true → Split s → ⊥
unfolding running
still s r e = no_bool (sym (rw (e, running) at r))

-- an event that splits a running station is a tick whose due commits differ
happens_split : (i : ℕ) (e : Event) (s : State) → IsCommon e → running s ≡ true → Split (happens i e s).next → (e ≡ common_tick) × (due_commits s ≡ none)
unfolding happens done saying
happens_split i idle s c r = λ q. absurd (still s r q)
happens_split i common_tick s c r = λ q. (refl, tick_split s r q)
happens_split i (tick_of j) s c r = absurd c
happens_split i (given j bs) s c r = by_bool (eqb i j) (λ q. rw (q, happens) (λ e. absurd (step_split bs s r e))) (λ q. rw (q, happens) (λ e. absurd (still s r e)))
happens_split i (offered_to j b) s c r = by_bool (eqb i j) (λ q. rw (q, happens) (λ e. absurd (offer_split b s r e))) (λ q. rw (q, happens) (λ e. absurd (still s r e)))

-- ---- the schedule up to moment k, at which a common tick would be next

-- the clock to which a tick at moment j would go
unfoldable next : ℕ → (ℕ → ℕ) → ℕ → ℕ
next k clock j = elim (ltb j k) [ true ↦ clock (suc j) | false ↦ clock k + 1 ]

next_before : (k : ℕ) (f : ℕ → ℕ) (j : ℕ) → j < k → next k f j ≡ f (suc j)
unfolding next
next_before k f j l = rw (lt-ltb j k l, next)

next_after : (k : ℕ) (f : ℕ → ℕ) (j : ℕ) → k ≤ j → next k f j ≡ f k + 1
unfolding next
next_after k f j l = rw (not_lt j k l, next)

module _ (size : Size) (n D : ℕ) (event : ℕ → Event) (faulty : ℕ) (height_of parent_of : ℕ → ℕ) (P : Premises (run size n D event) faulty height_of parent_of) where
  abbrev R : Run
  R = run size n D event

  module _ (k : ℕ) (tick-next : event k ≡ common_tick) (runs : RunsTo R faulty k) where
    abbrev E : ℕ → Event
    E = until k event

    abbrev Q : Run
    Q = run size n D E

    abbrev C : ℕ → ℕ
    C = clock event 0

    after_tick : C (suc k) ≡ C k + 1
    after_tick = clock_suc event k ∙ ap (λ (y : Event). C k + ticks 0 y) tick-next ∙ (unfold ticks in refl)

    cut_runs : SoundRun Q faulty
    cut_runs i ok j =
        elim (dec_le j k) [
          | yes d ↦ rw (at_until size n D event k i j d) (runs i ok j d)
          | no d ↦ rw (at_after size n D event k i j (omega arith)) (runs i ok k (omega arith))
        ]

    cut_soon : (j : ℕ) → clock E 0 (suc j) ≤ next k C j
    cut_soon j =
        elim (dec_lt j k) [
          | yes d ↦ rw (next_before k C j d, clock_until size n D event k 0 (suc j) d) (omega arith)
          | no d ↦ rw (next_after k C j (omega arith), clock_after size n D event k 0 (suc j) (omega arith)) (omega arith)
        ]

    cut_late : (j : ℕ) → next k C j ≤ clock E 0 j + 1
    cut_late j =
        elim (dec_lt j k) [
          | yes d ↦ rw (next_before k C j d, clock_until size n D event k 0 j (omega arith)) (one_tick event P.common j)
          | no d ↦ rw (next_after k C j (omega arith), clock_after size n D event k 0 j (omega arith)) (omega arith)
        ]

    -- a delivery that is due by the next tick of the whole schedule came before k
    cut_reaches : Reaches Q faulty (next k C)
    cut_reaches i j hi hj l q m s d =
        let (u, s') = sends_back size n D event k faulty i j l m s in
        let c = clock_until size n D event k 0 (suc l) u in
        let t = after_tick in
        elim (dec_lt q k) [
          | yes y ↦ (
              let f = next_before k C q y in
              let (h, o, a, e) = delivered size n D event faulty P.common P.in_time i j hi hj l q m s' (omega arith) in
              (h, o, a, until_before k event h (omega arith) ∙ e))
          | no y ↦ (
              let f = next_after k C q (omega arith) in
              let (h, o, a, e) = delivered size n D event faulty P.common P.in_time i j hi hj l k m s' (omega arith) in
              (h, o, omega arith, until_before k event h a ∙ e))
        ]

    abbrev cut_group : Group
    cut_group = group_of size n D E faulty height_of parent_of (premises_until size n D event k faulty height_of parent_of P) cut_runs (next k C) cut_soon cut_late cut_reaches

    no_split_here : (i : ℕ) → Sound R faulty i → ¬ (due_commits (at size n D event i k) ≡ none)
    no_split_here i ok e =
        let f = next_after k C k (omega arith) in
        let c = clock_until size n D event k 0 k (omega arith) in
        commits_agree cut_group i ok k (omega arith) (subst (λ (s : State). due_commits s ≡ none) (sym (at_until size n D event k i k (omega arith))) e)

  module _ (room : NeverFull R faulty) where
    runs_on : (k : ℕ) → RunsTo R faulty k → (i : ℕ) → Sound R faulty i → running (at size n D event i (suc k)) ≡ true
    unfolding at running
    runs_on k ih i ok = go (at size n D event i (suc k)).phase refl
      where
        go : (p : Phase) → (at size n D event i (suc k)).phase ≡ p → running (at size n D event i (suc k)) ≡ true
        go in_view e = rw (e, running)
        go (waiting q) e = rw (e, running)
        go (stopped full) e = absurd ((room i ok (suc k)).0 e)
        go (stopped late) e = absurd ((room i ok (suc k)).1 e)
        go (stopped split) e =
            let (t, d) = happens_split i (event k) (at size n D event i k) (P.common k) (ih i ok k (omega arith)) e in
            absurd (no_split_here k t ih i ok d)

    runs_to : (k : ℕ) → RunsTo R faulty k
    unfolding at fresh running
    runs_to zero i ok j l = let e : j ≡ 0 = omega arith in rw e refl
    runs_to (suc k) i ok j l =
        elim (dec_le j k) [
          | yes d ↦ runs_to k i ok j d
          | no d ↦ (let e : j ≡ suc k = omega arith in rw e (runs_on k (runs_to k) i ok))
        ]

    -- a sound station that never wants for records or clock is never stopped: refusal 7 doesn't happen
    pub never_split : SoundRun R faulty
    never_split i ok k = runs_to k i ok k (omega arith)
