-- Request 12 of the rules: up to each moment K up to which no sound station is full or at the last clock, under the premises of demand 3
-- and with a prompt sound leader, no sound station blames view v, none quits it, each votes in turn within the bound, and what it voted
-- for is in its log 2D+1 ticks later. Assumes nothing.
use mathlib.Core.Path.{◌≡◌, subst, subst₂, sym, ap, ◌∙◌}
use Prim.Native.Nat.{ℕ, zero, suc, ◌+◌, ◌*◌, ◌≤◌, ◌<◌}
use native.Mathlib.Omega.{arith}
use native.Mathlib.Nat.{add-mul, le_of_lt}
use native.Mathlib.Decide.{dec_lt}
use mathlib.Core.Bool.{false}
use mathlib.Core.List.{IsPrefix}
use Rattle.rules.specs.Limits.{Size}
use Rattle.rules.specs.Messages.{propose, vote, blame, to_all}
use Rattle.rules.specs.Words.{in_view, State}
use Rattle.laws.proofs.Statements.{Clean}
use Rattle.laws.proofs.Allowed.{sizes}
use Rattle.laws.proofs.Kept.{moves_kept}
use Rattle.laws.proofs.Commits.{begins_trans}
use Rattle.agreement.specs.Schedule.{Event, idle, common_tick, settings_of, until, at, clock, Run, run, IsSaid, Sound, RoomTo, Premises, Schedule, lineage}
use Rattle.agreement.proofs.Events.{never_idle}
use Rattle.agreement.proofs.Clock.{clock_before, last_of, clock_alike}
use Rattle.agreement.proofs.Group.{Group, kept_run, cast_run}
use Rattle.agreement.proofs.Needed.{to_group}
use Rattle.agreement.proofs.Until.{not_lt, until_before, at_until, clock_until, says_on, says_back, schedule_until}
use Rattle.agreement.proofs.Theorems.{sound_run, vote_commits}
use Rattle.progress.specs.Progress.{possible, voted_in, chief, Prompt, VotedBy, Led, GetsOn}
use Rattle.progress.proofs.Leader.{leader_clean}
use Rattle.progress.proofs.Calm.{Calm, in_calm}
use Rattle.progress.proofs.Heights.{span, span_bound, span_mono}
use Rattle.progress.proofs.Bound.{turn, calm_all}
use Rattle.progress.proofs.Growth.{log_run}

-- ---- numbers

later_by : (a b D : ℕ) → 1 ≤ D → b ≡ a + 2 * D → a < b
later_by a b D p q = omega arith

through : (v a b c : ℕ) → a ≡ v → a ≤ b → b ≤ c → v ≤ c
through v a b c p q r = omega arith

before_end : (l k K : ℕ) → suc l < k → k < K → l < K
before_end l k K p q = omega arith

nothing_yet : (e x : ℕ) → e + x + 2 ≤ 0 → ⊥
nothing_yet e x d = omega arith

-- (2p+6)D is 2D more than (2p+4)D
six : (p D : ℕ) → (2 * p + 6) * D ≡ span D p + 6 * D
six p D =
    let e : 2 * p + 6 ≡ 2 * p + 4 + 2 = omega arith in
    ap (◌* D) e ∙ add-mul (2 * p + 4) 2 D ∙ go (span D p) ((2 * p + 4) * D) (span_bound D p)
  where
    go : (s m : ℕ) → m ≡ s + 4 * D → m + 2 * D ≡ s + 6 * D
    go s m z = omega arith

sooner : (e c p D : ℕ) → e + (2 * p + 6) * D + 2 ≤ c → e + (2 * p + 4) * D + 2 ≤ c
sooner e c p D d = go (span D p) ((2 * p + 6) * D) ((2 * p + 4) * D) (six p D) (span_bound D p) d
  where
    go : (s x y : ℕ) → x ≡ s + 6 * D → y ≡ s + 4 * D → e + x + 2 ≤ c → e + y + 2 ≤ c
    go s x y a b l = omega arith

ripe : (e a c q p D : ℕ) → q ≤ p → a ≤ e + (2 * q + 4) * D + 1 → e + (2 * p + 6) * D + 2 ≤ c → a + 2 * D < c
ripe e a c q p D l u d = go (span D q) (span D p) ((2 * q + 4) * D) ((2 * p + 6) * D) (span_mono D q p l) (span_bound D q) (six p D) u d
  where
    go : (s t x y : ℕ) → s ≤ t → x ≡ s + 4 * D → y ≡ t + 6 * D → a ≤ e + x + 1 → e + y + 2 ≤ c → a + 2 * D < c
    go s t x y i j k m o = omega arith

-- ---- a schedule in which all sound stations run

module _ (size : Size) (n D : ℕ) (event : ℕ → Event) (faulty : ℕ) (height_of parent_of : ℕ → ℕ) (S : Schedule (run size n D event) faulty height_of parent_of)
    (v : ℕ) (led : (K : ℕ) → Led (run size n D event) v faulty K) where
  abbrev R : Run
  R = run size n D event

  abbrev X : Group
  X = to_group size n D event faulty height_of parent_of S.premises (sound_run size n D event faulty height_of parent_of S)

  prompt : Prompt R v
  prompt k = (led (suc k)).prompt k (omega arith)

  calm : (c : ℕ) → Calm X S.premises.no_forgery v (led 0).inside (led 0).sound c
  calm = calm_all X S.premises.no_forgery v (led 0).inside (led 0).sound prompt

  whole_blame : (i : ℕ) → Sound R faulty i → (k a : ℕ) → ¬ (IsSaid R i k (to_all (blame v a)))
  whole_blame i hi k a s = calm (clock event 0 (suc k)) i hi k a (omega arith) s

  whole_quit : (i : ℕ) → Sound R faulty i → (k : ℕ) → v ≤ (at size n D event i k).view → ((at size n D event i k).view ≡ v) × ((at size n D event i k).phase ≡ in_view)
  whole_quit i hi k l = in_calm X S.premises.no_forgery v (led 0).inside (led 0).sound i hi k (calm (clock event 0 k)) l

  whole_turn : (i : ℕ) → Sound R faulty i → (k0 : ℕ) → (at size n D event i k0).view ≡ v → (p k : ℕ) → (at size n D event i k0).entry + (2 * p + 4) * D + 2 ≤ clock event 0 (suc k)
      → (h : ℕ) × ((j : ℕ) → Sound R faulty j → p ≤ voted_in v (at size n D event j k))
      × ((q : ℕ) → 1 ≤ q → q ≤ p → (b : ℕ) × ((j : ℕ) → Sound R faulty j → VotedBy R v j (h + q) b ((at size n D event i k0).entry + (2 * q + 4) * D + 1)))
  whole_turn i hi k0 w p k d = turn X S.premises.no_forgery v (led 0).inside (led 0).sound prompt i hi k0 w p k (calm (clock event 0 k)) d

  -- who voted in v and is not past it is in it
  whole_commits : (j : ℕ) → Sound R faulty j → (l h b p m a : ℕ) → IsSaid R j l (to_all (propose v h b p m a)) → IsSaid R j l (to_all (vote v h b j))
      → (k : ℕ) → event k ≡ common_tick → clock event 0 k ≡ clock event 0 (suc l) + 2 * D → IsPrefix (lineage parent_of h b) (at size n D event j (suc k)).log
  whole_commits j hj l h b p m a s w k e d =
      let c = cast_run X j hj l v h b j w in
      let one = (moves_kept c.after).view in
      let delay = (sizes (settings_of size n D 0) S.premises.settings).leastD in
      let later = clock_before event (suc l) k (later_by (clock event 0 (suc l)) (clock event 0 k) D delay d) in
      let two = (kept_run X j hj (suc l) k (le_of_lt later)).view in
      let (vw, ph) = whole_quit j hj k (through v c.at.view (at size n D event j (suc l)).view (at size n D event j k).view c.stands.current one two) in
      let al = clock_alike event S.premises.common j in
      vote_commits size n D event faulty height_of parent_of S j hj l v h b p m a s w k e (al k ∙ d ∙ ap (◌+ 2 * D) (sym (al (suc l)))) ph vw

  -- the vote of the q-th is 2D+1 ticks old as the tick to e+(2p+6)D+2 begins
  whole_logs : (i : ℕ) → Sound R faulty i → (k0 : ℕ) → (at size n D event i k0).view ≡ v → (p k : ℕ) → (at size n D event i k0).entry + (2 * p + 6) * D + 2 ≤ clock event 0 k
      → (h : ℕ) × ((q : ℕ) → 1 ≤ q → q ≤ p → (b : ℕ) × ((j : ℕ) → Sound R faulty j → IsPrefix (lineage parent_of (h + q) b) (at size n D event j k).log))
  unfolding clock
  whole_logs i hi k0 w p zero d = absurd (nothing_yet _ _ d)
  whole_logs i hi k0 w p (suc k1) d =
      let e = (at size n D event i k0).entry in
      let (h, _, f) = whole_turn i hi k0 w p k1 (sooner e (clock event 0 (suc k1)) p D d) in
      (h, λ q a b. let (x, g) = f q a b in (x, λ j hj. logged j hj e (h + q) x q b d (g j hj)))
    where
      logged : (j : ℕ) → Sound R faulty j → (e h b q : ℕ) → q ≤ p → e + (2 * p + 6) * D + 2 ≤ clock event 0 (suc k1) → VotedBy R v j h b (e + (2 * q + 4) * D + 1)
          → IsPrefix (lineage parent_of h b) (at size n D event j (suc k1)).log
      logged j hj e h b q lq dk (l, u, (pa, m, a, s, t)) =
          let (k, before, c1, c2, tk) = last_of event S.premises.common (clock event 0 (suc l) + 2 * D) (suc k1) (ripe e (clock event 0 (suc l)) (clock event 0 (suc k1)) q p D lq u dk) in
          begins_trans (lineage parent_of h b) (at size n D event j (suc k)).log (at size n D event j (suc k1)).log (whole_commits j hj l h b pa m a s t k tk c1) (log_run X j hj (suc k) (suc k1) before)

-- ---- up to a moment

module _ (size : Size) (n D : ℕ) (event : ℕ → Event) (faulty : ℕ) (height_of parent_of : ℕ → ℕ) (v K : ℕ) where
  abbrev W : Run
  W = run size n D event

  abbrev E : ℕ → Event
  E = until K event

  abbrev Q : Run
  Q = run size n D E

  idle_after : (k : ℕ) → K ≤ k → E k ≡ idle
  unfolding until
  idle_after k l = rw (not_lt k K l, until)

  -- the leader is prompt up to K, and no tick comes afterwards
  led_until : Led W v faulty K → (M : ℕ) → Led Q v faulty M
  led_until led M = record { inside = led.inside; sound = led.sound; prompt = λ k _. prompt_at k }
    where
      prompt_at : (k : ℕ) → E k ≡ common_tick → (at size n D E (chief W v) k).view ≡ v → possible (at size n D E (chief W v) k) ≡ false
      prompt_at k e w =
          elim (dec_lt k K) [
            | yes d ↦ (
                let same = at_until size n D event K (chief W v) k (le_of_lt d) in
                subst (λ (s : State). possible s ≡ false) (sym same) (led.prompt k d (sym (until_before K event k d) ∙ e) (subst (λ (s : State). s.view ≡ v) same w)))
            | no d ↦ absurd (never_idle common_tick tt (sym (idle_after k (omega arith)) ∙ e))
          ]

  -- a sound leader's own statements never conflict with each other, whatever the faulty ones send and hosts offer: no two statements of
  -- its view that it stores do
  pub leader_apart : Premises W faulty height_of parent_of → RoomTo W faulty K → Sound W faulty (chief W v) → (k : ℕ) → k ≤ K
      → Clean v (at size n D event (chief W v) k).statements
  leader_apart P room ok k l =
      let S = schedule_until size n D event K faulty height_of parent_of P room in
      let Y = to_group size n D E faulty height_of parent_of S.premises (sound_run size n D E faulty height_of parent_of S) in
      subst (λ (s : State). Clean v s.statements) (at_until size n D event K (chief W v) k l) (leader_clean Y S.premises.no_forgery v ok k)

  -- Theorem P
  pub gets_on : Premises W faulty height_of parent_of → RoomTo W faulty K → Led W v faulty K → GetsOn W v faulty K parent_of
  gets_on P room led =
      record {
        no_blame = λ i hi k a l s. whole_blame size n D E faulty height_of parent_of S v lu i hi k a (says_on size n D event K i k (to_all (blame v a)) l s);
        no_quit = λ i hi k l u.
            subst (λ (s : State). v ≤ s.view → (s.view ≡ v) × (s.phase ≡ in_view)) (at_until size n D event K i k l) (whole_quit size n D E faulty height_of parent_of S v lu i hi k) u;
        in_turn = λ i e hi (k0, l0, w, en) p k l d. in_turn_lem i e hi k0 l0 w en p k l d;
        commits = λ j hj l h b p m a s w k u e d. commits_at j hj l h b p m a s w k u e d;
        in_logs = λ i e hi (k0, l0, w, en) p k l d. in_logs_lem i e hi k0 l0 w en p k l d;
      }
    where
      S : Schedule Q faulty height_of parent_of
      S = schedule_until size n D event K faulty height_of parent_of P room

      lu : (M : ℕ) → Led Q v faulty M
      lu = led_until led

      back : (j h b c : ℕ) → VotedBy Q v j h b c → VotedBy W v j h b c
      back j h b c (l, u, (p, m, a, s, w)) =
          let (d, s') = says_back size n D event K j l _ s in
          let (_, w') = says_back size n D event K j l _ w in
          (l, subst (λ (x : ℕ). x ≤ c) (clock_until size n D event K 0 (suc l) d) u, (p, m, a, s', w'))

      in_turn_lem : (i e : ℕ) → Sound W faulty i → (k0 : ℕ) → k0 ≤ K → (at size n D event i k0).view ≡ v → (at size n D event i k0).entry ≡ e → (p k : ℕ) → k < K
          → e + (2 * p + 4) * D + 2 ≤ clock event 0 (suc k)
          → (h : ℕ) × ((j : ℕ) → Sound W faulty j → p ≤ voted_in v (at size n D event j k))
          × ((q : ℕ) → 1 ≤ q → q ≤ p → (b : ℕ) × ((j : ℕ) → Sound W faulty j → VotedBy W v j (h + q) b (e + (2 * q + 4) * D + 1)))
      in_turn_lem i e hi k0 l0 w en p k l d =
          let same = at_until size n D event K i k0 l0 in
          let ee : (at size n D E i k0).entry ≡ e = ap (λ (s : State). s.entry) same ∙ en in
          let (h, f, g) = whole_turn size n D E faulty height_of parent_of S v lu i hi k0 (ap (λ (s : State). s.view) same ∙ w) p k
          (subst₂ (λ (x y : ℕ). x + (2 * p + 4) * D + 2 ≤ y) (sym ee) (sym (clock_until size n D event K 0 (suc k) l)) d) in (
            h,
            λ j hj. subst (λ (s : State). p ≤ voted_in v s) (at_until size n D event K j k (le_of_lt l)) (f j hj),
            λ q a b. let (x, y) = g q a b in (x, λ j hj. subst (λ (z : ℕ). VotedBy W v j (h + q) x (z + (2 * q + 4) * D + 1)) ee (back j (h + q) x _ (y j hj))),
          )

      in_logs_lem : (i e : ℕ) → Sound W faulty i → (k0 : ℕ) → k0 ≤ K → (at size n D event i k0).view ≡ v → (at size n D event i k0).entry ≡ e → (p k : ℕ) → k ≤ K
          → e + (2 * p + 6) * D + 2 ≤ clock event 0 k
          → (h : ℕ) × ((q : ℕ) → 1 ≤ q → q ≤ p → (b : ℕ) × ((j : ℕ) → Sound W faulty j → IsPrefix (lineage parent_of (h + q) b) (at size n D event j k).log))
      in_logs_lem i e hi k0 l0 w en p k l d =
          let same = at_until size n D event K i k0 l0 in
          let ee : (at size n D E i k0).entry ≡ e = ap (λ (s : State). s.entry) same ∙ en in
          let (h, f) = whole_logs size n D E faulty height_of parent_of S v lu i hi k0 (ap (λ (s : State). s.view) same ∙ w) p k
          (subst₂ (λ (x y : ℕ). x + (2 * p + 6) * D + 2 ≤ y) (sym ee) (sym (clock_until size n D event K 0 k l)) d) in
          (h, λ q a b. let (x, y) = f q a b in (x, λ j hj. subst (λ (s : State). IsPrefix (lineage parent_of (h + q) x) s.log) (at_until size n D event K j k l) (y j hj)))

      commits_at : (j : ℕ) → Sound W faulty j → (l h b p m a : ℕ) → IsSaid W j l (to_all (propose v h b p m a)) → IsSaid W j l (to_all (vote v h b j))
          → (k : ℕ) → k < K → event k ≡ common_tick → clock event 0 k ≡ clock event 0 (suc l) + 2 * D → IsPrefix (lineage parent_of h b) (at size n D event j (suc k)).log
      commits_at j hj l h b p m a s w k u e d =
          let delay = (sizes (settings_of size n D 0) P.settings).leastD in
          let later = clock_before event (suc l) k (later_by (clock event 0 (suc l)) (clock event 0 k) D delay d) in
          let lk : l < K = before_end l k K later u in
          subst (λ (t : State). IsPrefix (lineage parent_of h b) t.log) (at_until size n D event K j (suc k) u)
          (whole_commits size n D E faulty height_of parent_of S v lu j hj l h b p m a (says_on size n D event K j l _ lk s) (says_on size n D event K j l _ lk w) k (until_before K event k u ∙ e)
          (clock_until size n D event K 0 k (le_of_lt u) ∙ d ∙ ap (◌+ 2 * D) (sym (clock_until size n D event K 0 (suc l) lk))))
