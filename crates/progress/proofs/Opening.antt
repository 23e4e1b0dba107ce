-- The leader's new-view of v, made 2D+1 ticks after it entered, ranks at or above every sound lock of v: each lock was sent to the
-- leader at the entry, at most D ticks after the leader's own, and came in time. Assumes nothing.
use mathlib.Core.Path.{◌≡◌, subst, refl, sym, ap, ◌∙◌}
use Prim.Native.Nat.{ℕ, zero, suc, ◌+◌, ◌-◌, ◌*◌, ◌≤◌, ◌<◌}
use native.Mathlib.Omega.{arith}
use native.Mathlib.Nat.{add-mul}
use native.Mathlib.Decide.{dec_lt, dec_le, ℕ_discrete}
use mathlib.Core.Bool.{true, false}
use mathlib.Core.List.{List}
use mathlib.Core.Logic.{◌⊎◌, inl, inr}
use lib.Dec.{eqb}
use borrow.Author.Tests.{eqb-true, eq-eqb}
use Rattle.rules.specs.Limits.{first_view, last_view}
use Rattle.rules.specs.Sizes.{Settings, leader}
use Rattle.rules.specs.Messages.{status, view_of, write, to_one}
use Rattle.rules.specs.Words.{Statement, Certificate, Tally, highest, in_view, State}
use Rattle.rules.specs.Inputs.{leads, handled, votes, overdue, complain, leads_now, lead, enter}
use Rattle.rules.specs.Refusals.{Outcome, done, running, step, tick}
use Rattle.laws.proofs.Tests.{by_bool}
use Rattle.laws.proofs.Truths.{both}
use Rattle.laws.proofs.Tallies.{Above, AtLeast}
use Rattle.laws.proofs.Statements.{In}
use Rattle.laws.proofs.Allowed.{sizes, mask_parts, certificate_cases, allowed_rights}
use Rattle.laws.proofs.Kept.{true_in}
use Rattle.laws.proofs.Held.{step_done}
use Rattle.laws.proofs.Leads.{at_leads, new_view_of, overdue_at}
use Rattle.agreement.specs.Schedule.{Event, common_tick, happens, at, run, IsSaid, NoForgery}
use Rattle.agreement.proofs.Events.{begun, begun_same, happens_given}
use Rattle.agreement.proofs.Whole.{sent_allowed}
use Rattle.agreement.proofs.Group.{Group, st, ck, Ok, G, SaidAt, moves_of, said_here, begun_at, at_settings, good}
use Rattle.progress.proofs.Tick.{tick_whole, lead_has, complain_quiet, enter_keeps}
use Rattle.progress.proofs.Entries.{begun_entry, Remains, entry_run}
use Rattle.progress.proofs.Marks.{Marked, marked_above, status_marked, KeepsMarks, moves_marks, Based, based_on, moves_based, fresh_based}
use Rattle.progress.proofs.Leader.{L, tick_clock}
use Rattle.progress.proofs.Calm.{Within}

-- a blame comes 6D+2 ticks after the entry at the earliest
late_blame : (a D x : ℕ) → (a + 6) * D + 2 ≤ x → 6 * D + 2 ≤ x
late_blame a D x h = go ((a + 6) * D) (a * D) (add-mul a 6 D) h
  where
    go : (p m : ℕ) → p ≡ m + 6 * D → p + 2 ≤ x → 6 * D + 2 ≤ x
    go p m e l = omega arith

overdue_late : (s : State) → overdue s ≡ true → 6 * s.settings.D + 2 ≤ s.clock - s.entry
overdue_late s q = late_blame (2 * votes s) s.settings.D (s.clock - s.entry) (overdue_at s q)

-- every rank is at least that of genesis
zero_rank : (a b c d : ℕ) → c ≡ 0 → d ≡ 0 → AtLeast a b c d
zero_rank a b c d p q = elim (dec_lt c a) [ yes y ↦ inl y | no y ↦ inr (omega arith, omega arith) ]

module _ (X : Group) where
  open X use {size, n, D, faulty, event, next, parent_of}

  begun_based : (i k : ℕ) → Based (SaidAt X i) (st X i k) → Based (SaidAt X i) (begun (event k) (st X i k))
  begun_based i k h =
      let b = begun_same (event k) (st X i k) in
      based_on (SaidAt X i) (st X i k) (begun (event k) (st X i k)) b.0 b.2 (begun_entry (event k) (st X i k)) b.6
      (λ g c m. subst (Marked g c) (sym b.4) m) h

  based_run : (i : ℕ) → Ok X i → (k : ℕ) → Based (SaidAt X i) (st X i k)
  unfolding at
  based_run i h zero = fresh_based (SaidAt X i) (G X i)
  based_run i h (suc k) =
      let (o, q, w) = moves_of X i h k in
      let b = begun (event k) (st X i k) in
      moves_based (SaidAt X i) b (st X i (suc k)) o w (said_here X i k o q b.clock (sym (begun_at X i h k))) (begun_based i k (based_run i h k))

  marks_one : (i : ℕ) → Ok X i → (k : ℕ) → KeepsMarks (st X i k) (st X i (suc k))
  marks_one i h k g c m =
      let (o, q, w) = moves_of X i h k in
      moves_marks (begun (event k) (st X i k)) (st X i (suc k)) o w g c (subst (Marked g c) (sym (begun_same (event k) (st X i k)).4) m)

  marks_run : (i : ℕ) → Ok X i → (k l : ℕ) → k ≤ l → KeepsMarks (st X i k) (st X i l)
  marks_run i h k zero d g c m = let e : k ≡ 0 = omega arith in subst (λ (j : ℕ). Marked g c (st X i j).tallies) e m
  marks_run i h k (suc l) d g c m =
      elim (dec_le k l) [
        | yes u ↦ marks_one i h l g c (marks_run i h k l u g c m)
        | no u ↦ (let e : k ≡ suc l = omega arith in subst (λ (j : ℕ). Marked g c (st X i j).tallies) e m)
      ]

  -- a status that a sound i sent the sound j at event l is certified at j before the tick D + 1 later
  status_held : (i j : ℕ) → Ok X i → Ok X j → (l k h b c m : ℕ) → IsSaid (run size n D event) i l (to_one j (status h b c m)) → ck X (suc l) + D + 1 ≤ next k
      → ((c ≡ 0) × (h ≡ 0)) ⊎ Marked (G X j) (record { view = c; height = h; name = b; mask = m }) (st X j k).tallies
  unfolding at view_of done
  status_held i j hi hj l k h b c m s d =
      let w = status h b c m in
      let t : Certificate = record { view = c; height = h; name = b; mask = m } in
      let (a, lo, hk, ev) = X.reaches i j hi hj l k w (inr s) d in
      let u = st X j a in
      let (rd, al) = sent_allowed size n D event X.lent i (good X i hi) j l w (inr (j, s)) in
      let z : happens j (event a) u ≡ step (write w) u = ap (λ (y : Event). happens j y u) ev ∙ happens_given j (write w) u in
      let taken = X.takes i j hi hj l a w (inr (j, s)) lo ev (omega arith) in
      let (_, dn) = step_done (write w) w u rd (sym (ap (λ (o : Outcome). o.number) z) ∙ taken) in
      let nx : st X j (suc a) ≡ (handled w u).now = ap (λ (o : Outcome). o.next) (z ∙ dn) in
      elim (certificate_cases (G X j) m h c (allowed_rights (G X j) w al).1) [
        | inl (p, q, _) ↦ inl (p, q)
        | inr (p, _, q) ↦ inr (marks_run j hj (suc a) k hk (G X j) t
            (subst (λ (y : State). Marked (G X j) t y.tallies) (sym nx)
            (status_marked (G X j) h b c m u p (mask_parts (G X j) m q).1)))
      ]

module _ (X : Group) (genuine : NoForgery (run X.size X.n X.D X.event) X.faulty) (v : ℕ) (inside : (first_view ≤ v) × (v ≤ last_view X.size))
    (ok : Ok X (L X v)) where
  open X use {size, n, D, faulty, event, next, parent_of}

  -- the tick 2D+1 after L entered, at which it is in v
  pub record Opens (l0 : ℕ) : Type 0 where
    pub tick : event l0 ≡ common_tick
    pub within : Within X genuine v inside ok (L X v) l0
    pub due : ck X l0 ≡ (st X (L X v) l0).entry + 2 * D

  module _ (l0 : ℕ) (O : Opens l0) where
    -- the highest certificate of an earlier view that L has then
    abbrev pub best : Certificate
    best = highest (G X (L X v)) v (st X (L X v) l0).tallies

    abbrev pub opener : Statement
    opener = new_view_of (G X (L X v)) v (st X (L X v) l0).tallies

    -- L's own lock
    own_above : (k : ℕ) → (st X (L X v) k).view ≡ v → Above best (st X (L X v) k).lock
    own_above k w =
        let same : (st X (L X v) l0).lock ≡ (st X (L X v) k).lock = elim (dec_le l0 k) [ yes d ↦ fore (entry_run X (L X v) ok l0 k d) | no d ↦ back (entry_run X (L X v) ok k l0 (omega arith)) ] in
        subst (Above best) same (here (based_run X (L X v) ok l0))
      where
        u : (st X (L X v) l0).view ≡ v
        u = O.within.0

        fore : Remains (st X (L X v) l0) (st X (L X v) k) ⊎ (((st X (L X v) l0).view < (st X (L X v) k).view) × (ck X (suc l0) ≤ (st X (L X v) k).entry)) → (st X (L X v) l0).lock ≡ (st X (L X v) k).lock
        fore (inl (_, _, e)) = sym e
        fore (inr (e, _)) = let z = u in absurd (omega arith)

        back : Remains (st X (L X v) k) (st X (L X v) l0) ⊎ (((st X (L X v) k).view < (st X (L X v) l0).view) × (ck X (suc k) ≤ (st X (L X v) l0).entry)) → (st X (L X v) l0).lock ≡ (st X (L X v) k).lock
        back (inl (_, _, e)) = e
        back (inr (e, _)) = let z = u in absurd (omega arith)

        here : Based (SaidAt X (L X v)) (st X (L X v) l0) → Above best (st X (L X v) l0).lock
        here (inl (a, b)) = zero_rank _ _ _ _ a b
        here (inr (l, m, _, _)) =
            marked_above (G X (L X v)) v (st X (L X v) l0).lock (st X (L X v) l0).tallies (rw u at l)
            (subst (λ (g : Settings). Marked g (st X (L X v) l0).lock (st X (L X v) l0).tallies) (at_settings X (L X v) ok l0) m)

    -- that of another, which entered at most D ticks after L
    other_above : (s : ℕ) → Ok X s → ¬ (s ≡ (L X v)) → (k : ℕ) → (st X s k).view ≡ v → (st X s k).entry ≤ (st X (L X v) l0).entry + D → Above best (st X s k).lock
    unfolding leader
    other_above s hs ne k w d = go (based_run X s hs k)
      where
        g : (st X s k).settings ≡ G X s
        g = at_settings X s hs k

        to : leader (st X s k).settings (st X s k).view ≡ (L X v)
        to = ap (λ (y : Settings). leader y (st X s k).view) g ∙ ap (leader (G X s)) w

        other : eqb (leader (st X s k).settings (st X s k).view) (st X s k).settings.own ≡ false
        other = by_bool (eqb (leader (st X s k).settings (st X s k).view) (st X s k).settings.own)
            (λ q. absurd (ne (sym (sym to ∙ eqb-true _ _ q ∙ ap (λ (y : Settings). y.own) g)))) (λ q. q)

        t : Certificate
        t = (st X s k).lock

        now : ck X (suc l0) ≡ ck X l0 + 1
        now = tick_clock X genuine v ok l0 O.tick

        came : t.view < v → ((t.view ≡ 0) × (t.height ≡ 0)) ⊎ Marked (G X (L X v)) t (st X (L X v) l0).tallies → Above best t
        came l (inl (a, b)) = zero_rank _ _ _ _ a b
        came l (inr m) = marked_above (G X (L X v)) v t (st X (L X v) l0).tallies l m

        go : Based (SaidAt X s) (st X s k) → Above best t
        go (inl (a, b)) = zero_rank _ _ _ _ a b
        go (inr (l, _, _, sent)) =
            let (j, c, says) = sent other in
            let e = now in
            let due = O.due in
            let soon = X.soon l0 in
            came (rw w at l) (status_held X s (L X v) hs ok j l0 t.height t.name t.view t.mask
            (subst (λ (y : ℕ). IsSaid (run size n D event) s j (to_one y (status t.height t.name t.view t.mask))) to says) (omega arith))

    pub locks_below : (s : ℕ) → Ok X s → (k : ℕ) → (st X s k).view ≡ v → (st X s k).entry ≤ (st X (L X v) l0).entry + D → Above best (st X s k).lock
    locks_below s hs k w d =
        elim (ℕ_discrete s (L X v)) [
          | yes e ↦ subst (λ (y : ℕ). Above best (st X y k).lock) (sym e) (own_above k (subst (λ (y : ℕ). (st X y k).view ≡ v) e w))
          | no ne ↦ other_above s hs ne k w d
        ]

    -- ---- the new-view is stored after that tick

    abbrev u0 : State
    u0 = begun common_tick (st X (L X v) l0)

    begun_now : (u0.settings ≡ G X (L X v)) × (u0.view ≡ v) × (u0.phase ≡ in_view) × (u0.tallies ≡ (st X (L X v) l0).tallies) × (u0.clock ≡ u0.entry + 2 * D + 1)
    begun_now =
        let b = begun_same common_tick (st X (L X v) l0) in
        let e = tick_clock X genuine v ok l0 O.tick in
        let c : u0.clock ≡ ck X (suc l0) = ap (λ (y : Event). (begun y (st X (L X v) l0)).clock) (sym O.tick) ∙ begun_at X (L X v) ok l0 in
        let en = begun_entry common_tick (st X (L X v) l0) in
        let d = O.due in
        (b.0 ∙ at_settings X (L X v) ok l0, b.2 ∙ O.within.0, b.1 ∙ O.within.1, b.4, omega arith)

    quiet : overdue u0 ≡ false
    quiet =
        let (g, _, _, _, c) = begun_now in
        let d : u0.settings.D ≡ D = ap (λ (y : Settings). y.D) g in
        let delay = (sizes (G X 0) X.settings).leastD in
        by_bool (overdue u0) (λ q. let z = overdue_late u0 q in absurd (omega arith)) (λ q. q)

    leading : leads_now u0 ≡ true
    unfolding leads leader
    leading =
        let (g, w, p, _, c) = begun_now in
        let d : u0.settings.D ≡ D = ap (λ (y : Settings). y.D) g in
        at_leads u0 (both (true_in u0.view u0 p refl) (eq-eqb (leader u0.settings u0.view) u0.settings.own (ap (λ (y : Settings). leader y u0.view) g ∙ ap (leader (G X (L X v))) w ∙ sym (ap (λ (y : Settings). y.own) g))))
        (c ∙ sym (ap (λ (y : ℕ). u0.entry + 2 * y + 1) d))

    pub opener_stored : In (st X (L X v) (suc l0)).statements opener
    unfolding at happens
    opener_stored =
        let s = st X (L X v) l0 in
        let nx : st X (L X v) (suc l0) ≡ (tick s).next = ap (λ (y : Event). (happens (L X v) y s).next) O.tick in
        let (e, _) = tick_whole s (subst (λ (t : State). running t ≡ true) nx (X.runs (L X v) ok (suc l0))) in
        let (g, w, _, ts, _) = begun_now in
        let c : (complain u0).now ≡ u0 = complain_quiet u0 quiet in
        let has = enter_keeps (lead u0).now (new_view_of u0.settings u0.view u0.tallies) (lead_has u0 leading) in
        let has' : In (enter (lead u0).now).now.statements opener = subst (λ (y : Settings). In (enter (lead u0).now).now.statements (new_view_of y v (st X (L X v) l0).tallies)) g
        (subst (λ (y : ℕ). In (enter (lead u0).now).now.statements (new_view_of u0.settings y (st X (L X v) l0).tallies)) w
        (subst (λ (y : List Tally). In (enter (lead u0).now).now.statements (new_view_of u0.settings u0.view y)) ts has)) in
        subst (λ (t : State). In t.statements opener) (sym (nx ∙ e)) (subst (λ (t : State). In (enter (lead t).now).now.statements opener) (sym c) has')
