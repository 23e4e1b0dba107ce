-- The bound: from any sound entry at clock e every sound station has voted for the p-th proposal by clock e+(2p+4)D+1, while no sound
-- station blames v; so none ever does. Assumes nothing.
use mathlib.Core.Path.{◌≡◌, subst, refl, sym, ap, ◌∙◌}
use Prim.Native.Nat.{ℕ, zero, suc, ◌+◌, ◌-◌, ◌*◌, ◌≤◌, ◌<◌}
use native.Mathlib.Omega.{arith}
use native.Mathlib.Nat.{le_of_lt}
use native.Mathlib.Decide.{dec_le}
use mathlib.Core.Bool.{true, false}
use mathlib.Core.List.{List, Memᴰ}
use mathlib.Core.Logic.{◌⊎◌, inl, inr}
use mathlib.Core.Option.{some}
use lib.ListN.{length}
use borrow.Author.Tests.{eq-eqb}
use Rattle.rules.specs.Limits.{first_view, last_view}
use Rattle.rules.specs.Lists.{keep}
use Rattle.rules.specs.Sizes.{Settings}
use Rattle.rules.specs.Messages.{Message, propose, vote, blame, to_all}
use Rattle.rules.specs.Words.{Statement, message, State}
use Rattle.rules.specs.Inputs.{votes, overdue}
use Rattle.laws.proofs.Tests.{by_bool}
use Rattle.laws.proofs.Searches.{keep_mem, all_of}
use Rattle.laws.proofs.Statements.{same_like, In}
use Rattle.laws.proofs.Allowed.{sizes}
use Rattle.laws.proofs.Held.{held_stored}
use Rattle.laws.proofs.Leads.{overdue_at}
use Rattle.agreement.specs.Schedule.{Event, common_tick, at, out, run, IsSaid, NoForgery}
use Rattle.agreement.proofs.Events.{begun, begun_same}
use Rattle.agreement.proofs.Clock.{clock_mono, one_tick, last_of}
use Rattle.agreement.proofs.Group.{Group, st, ck, Ok, G, begun_at, at_settings, orderly_run, said_held}
use Rattle.agreement.proofs.Stays.{found, same_fields}
use Rattle.progress.specs.Progress.{is_voted, voted_in, Prompt, VotedBy}
use Rattle.progress.proofs.Blames.{Blaming, Overdue, event_says}
use Rattle.progress.proofs.Entries.{begun_entry, Remains, entry_run}
use Rattle.progress.proofs.Leader.{L, tick_clock}
use Rattle.progress.proofs.Calm.{Calm, calm_less, in_calm, joins_calm}
use Rattle.progress.proofs.Opening.{Opens, opener}
use Rattle.progress.proofs.Heights.{at_least, span, span_bound, span_mono}
use Rattle.progress.proofs.Rungs.{the_opener, high, heard_by, follows, Rung, rung}
use Rattle.progress.proofs.Ballots.{says_ballot}

-- ---- numbers: each fact of linear arithmetic apart, with all that it rests on in view

far_enough : (e D t a b : ℕ) → 1 ≤ D → a ≡ t + 4 * D → e + a + 2 ≤ b → (k : ℕ) → b ≤ k + 1 → (e + D ≤ k) × (e + 4 * D + 1 + t ≤ k)
far_enough e D t a b d p q k l = (omega arith, omega arith)

opens_before : (e l D k : ℕ) → l ≤ e + D → e + 4 * D + 1 ≤ k → l + 2 * D < k
opens_before e l D k p q = omega arith

-- the q-th rung is said, heard and voted for in time
rung_due : (e l D s t k : ℕ) → 1 ≤ D → l ≤ e + D → s ≤ t → e + 4 * D + 1 + t ≤ k → l + 2 * D + 1 + s < k
rung_due e l D s t k d p q r = omega arith

heard_in_time : (e l D s t c b a m : ℕ) → l ≤ e + D → s ≤ t → c ≤ l + 2 * D + 1 + s → a ≡ t + 4 * D → e + a + 2 ≤ b → b ≤ m → (c + D + 1 ≤ m) × (c + D < b)
heard_in_time e l D s t c b a m p q r u w x = (omega arith, omega arith)

voted_in_time : (e l D s c x y : ℕ) → l ≤ e + D → c ≤ l + 2 * D + 1 + s → x ≡ s + 4 * D → y ≤ c + D → y ≤ e + x + 1
voted_in_time e l D s c x y p q r u = omega arith

overdue_since : (a b x y e f c k : ℕ) → a ≡ b → x ≡ y → e ≡ f → c ≡ k → (2 * a + 6) * x + 2 ≤ c - e → f + (2 * suc b + 4) * y + 2 ≤ k
overdue_since a b x y e f c k p q r s t =
    let u : (2 * a + 6) * x ≡ (2 * suc b + 4) * y = ap (λ (z : ℕ). (2 * z + 6) * x) p ∙ ap (λ (z : ℕ). (2 * b + 6) * z) q ∙ ap (◌* y) (six b) in
    go ((2 * a + 6) * x) ((2 * suc b + 4) * y) u t
  where
    six : (b : ℕ) → 2 * b + 6 ≡ 2 * suc b + 4
    six b = omega arith

    go : (m n : ℕ) → m ≡ n → m + 2 ≤ c - e → f + n + 2 ≤ k
    go m n z w = omega arith

before_tick : (a b c : ℕ) → b ≡ a + 1 → b ≤ suc c → a ≤ c
before_tick a b c p q = omega arith

no_more : (m : ℕ) → suc m ≤ m → ⊥
no_more m p = omega arith

no_tick : (a b : ℕ) → b ≡ a + 1 → b ≤ 0 → ⊥
no_tick a b p q = omega arith

-- the votes that a blame looks at
votes_in : (s : State) (v : ℕ) → s.view ≡ v → votes s ≡ length (keep (is_voted v) s.statements)
unfolding votes is_voted
votes_in s v e = ap (λ (w : ℕ). length (keep (is_voted w) s.statements)) e

voted_test : (v : ℕ) (z : Statement) (c : ℕ) → z.is_new_view ≡ false → z.view ≡ v → z.voted ≡ some c → is_voted v z ≡ true
unfolding is_voted
voted_test v z c k w e = rw (k, eq-eqb z.view v w, e) refl

module _ (X : Group) (genuine : NoForgery (run X.size X.n X.D X.event) X.faulty) (v : ℕ) (inside : (first_view ≤ v) × (v ≤ last_view X.size))
    (ok : Ok X (L X v)) (prompt : Prompt (run X.size X.n X.D X.event) v) where
  open X use {size, n, D, faulty, event, next, parent_of}

  abbrev Quiet : ℕ → Type 0
  Quiet k = Calm X genuine v inside ok (ck X k)

  delay : 1 ≤ D
  delay = (sizes (G X 0) X.settings).leastD

  -- ---- the tick at which L opens v

  opening : (i : ℕ) → Ok X i → (k0 : ℕ) → (st X i k0).view ≡ v → (k : ℕ) → Quiet k → (st X i k0).entry + D ≤ ck X k → (st X i k0).entry + 4 * D + 1 ≤ ck X k
      → (l0 : ℕ) × Opens X genuine v inside ok l0 × ((st X (L X v) l0).entry ≤ (st X i k0).entry + D)
  opening i hi k0 w k calm near d =
      let ((lv, lp), le) = joins_calm X genuine v inside ok i (L X v) hi ok k0 w k calm near in
      let (l, before, c1, c2, tk) = last_of event X.common ((st X (L X v) k).entry + 2 * D) k (opens_before (st X i k0).entry (st X (L X v) k).entry D (ck X k) le d) in
      let calm' = calm_less X genuine v inside ok (ck X l) (ck X k) (clock_mono event l k (le_of_lt before)) calm in
      go l lv le c1 c2 tk calm' (entry_run X (L X v) ok l k (le_of_lt before))
    where
      go : (l : ℕ) → (st X (L X v) k).view ≡ v → (st X (L X v) k).entry ≤ (st X i k0).entry + D → ck X l ≡ (st X (L X v) k).entry + 2 * D → ck X (suc l) ≡ (st X (L X v) k).entry + 2 * D + 1 → event l ≡ common_tick → Quiet l
          → Remains (st X (L X v) l) (st X (L X v) k) ⊎ (((st X (L X v) l).view < (st X (L X v) k).view) × (ck X (suc l) ≤ (st X (L X v) k).entry))
          → (l0 : ℕ) × Opens X genuine v inside ok l0 × ((st X (L X v) l0).entry ≤ (st X i k0).entry + D)
      go l lv le c1 c2 tk cl (inl (a, b, _)) =
          (l, record { tick = tk; within = in_calm X genuine v inside ok (L X v) ok l cl (omega (arith, a, lv)); due = c1 ∙ ap (λ (y : ℕ). y + 2 * D) b }, subst (λ (y : ℕ). y ≤ (st X i k0).entry + D) b le)
      go l lv le c1 c2 tk cl (inr (_, b)) = absurd (omega (arith, b, c2))

  -- ---- the turns

  abbrev Turn : (e p k : ℕ) → Type 0
  Turn e p k =
      (h : ℕ) × ((j : ℕ) → Ok X j → p ≤ voted_in v (st X j k))
      × ((q : ℕ) → 1 ≤ q → q ≤ p → (b : ℕ) × ((j : ℕ) → Ok X j → VotedBy (run size n D event) v j (h + q) b (e + (2 * q + 4) * D + 1)))

  module _ (i : ℕ) (hi : Ok X i) (k0 : ℕ) (w : (st X i k0).view ≡ v) (p k : ℕ) (calm : Quiet k) (d : (st X i k0).entry + (2 * p + 4) * D + 2 ≤ ck X (suc k)) where
    abbrev e : ℕ
    e = (st X i k0).entry

    far : (e + D ≤ ck X k) × (e + 4 * D + 1 + span D p ≤ ck X k)
    far = far_enough e D (span D p) ((2 * p + 4) * D) (ck X (suc k)) delay (span_bound D p) d (ck X k) (one_tick event X.common k)

    opens : (l0 : ℕ) × Opens X genuine v inside ok l0 × ((st X (L X v) l0).entry ≤ e + D)
    opens = opening i hi k0 w k calm far.0 (less (ck X k) far.1)
      where
        less : (a : ℕ) → e + 4 * D + 1 + span D p ≤ a → e + 4 * D + 1 ≤ a
        less a x = omega (arith, x)

    abbrev l0 : ℕ
    l0 = opens.0

    abbrev O : Opens X genuine v inside ok l0
    O = opens.1

    the_rung : (q : ℕ) → q ≤ p → Rung X genuine v inside ok l0 O prompt q
    the_rung q l =
        rung X genuine v inside ok l0 O prompt q k calm
        (rung_due e (st X (L X v) l0).entry D (span D q) (span D p) (ck X k) delay opens.2 (span_mono D q p l) far.1)

    in_time_lem : (q : ℕ) (l : q ≤ p) → ((the_rung q l).clock + D + 1 ≤ next k) × ((the_rung q l).clock + D < ck X (suc k))
    in_time_lem q l =
        heard_in_time e (st X (L X v) l0).entry D (span D q) (span D p) (the_rung q l).clock (ck X (suc k)) ((2 * p + 4) * D) (next k)
        opens.2 (span_mono D q p l) (the_rung q l).early (span_bound D p) d (X.soon k)

    -- what j has voted for
    noted : (j : ℕ) → Ok X j → (q : ℕ) → 1 ≤ q → q ≤ p → (z : Statement) × Memᴰ z (keep (is_voted v) (st X j k).statements) × (z.height ≡ (opener X genuine v inside ok l0 O).height + q)
    noted j hj q a b =
        let r = the_rung q b in
        let x = r.what in
        let xs = (st X j k).statements in
        let has = heard_by X genuine v inside ok l0 O j hj r.clock k x r.said (in_time_lem q b).0 in
        let ((vw, ph), _) = joins_calm X genuine v inside ok i j hi hj k0 w k calm far.0 in
        let (win, en) = joins_calm X genuine v inside ok (L X v) j ok hj l0 O.within.0 k calm (ready k far.1) in
        let (z, f, m) = found x xs has in
        let (zk, zv, zh, _) = same_fields x xs z f in
        let (c, vt, _, _, _) = (orderly_run X j hj k).votes ph x z f (high X genuine v inside ok l0 O j hj k vw en x has r.view) (r.view ∙ sym vw) in
        (z, keep_mem (is_voted v) xs z m (voted_test v z c (zk ∙ r.kind a) (zv ∙ r.view) vt), zh ∙ r.height)
      where
        ready : (k : ℕ) → e + 4 * D + 1 + span D p ≤ ck X k → (st X (L X v) l0).entry + D ≤ ck X k
        ready k x = let y = opens.2 in omega (arith, x, y)

    -- and when
    voted : (q : ℕ) → 1 ≤ q → (b : q ≤ p) (j : ℕ) → Ok X j
        → VotedBy (run size n D event) v j ((opener X genuine v inside ok l0 O).height + q) (the_rung q b).what.name (e + (2 * q + 4) * D + 1)
    unfolding message
    voted q a b j hj =
        let r = the_rung q b in
        let x = r.what in
        let (c, le, (y, same, _, (l, ce, s))) = follows X genuine v inside ok l0 O j hj r.clock k x r.view r.said r.entered (in_time_lem q b).1 calm in
        let (t, m, tv, th, tn) = says_ballot X j hj l x.view x.height x.name j s in
        let late = voted_in_time e (st X (L X v) l0).entry D (span D q) r.clock ((2 * q + 4) * D) c opens.2 r.early (span_bound D q) le in
        let has : In (st X j (suc l)).statements t = held_stored (G X j) (st X j (suc l)) t (said_held X j hj l (message t) m) in
        let kind : t.is_new_view ≡ false = by_bool t.is_new_view
        (λ n. absurd (taller (ap (λ (u : Statement). u.height) (same_like (opener X genuine v inside ok l0 O) t (the_opener X genuine v inside ok l0 O j hj (suc l) t has (tv ∙ r.view) n))) (th ∙ r.height) a)) (λ n. n) in (
          l,
          subst (λ (u : ℕ). u ≤ e + (2 * q + 4) * D + 1) (sym ce) late,
          (
            t.link,
            t.mask,
            t.author,
            subst (λ (u : Message). IsSaid (run size n D event) j l (to_all u)) (as_propose t kind (tv ∙ r.view) (th ∙ r.height) tn) m,
            subst (λ (u : Message). IsSaid (run size n D event) j l (to_all u)) (as_vote r.view r.height) s,
          ),
        )
      where
        taller : {h q g : ℕ} → g ≡ h → g ≡ h + q → 1 ≤ q → ⊥
        taller {h} {q} {g} x y z = omega arith

        as_propose : (t : Statement) → t.is_new_view ≡ false → {u h b : ℕ} → t.view ≡ u → t.height ≡ h → t.name ≡ b → message t ≡ propose u h b t.link t.mask t.author
        as_propose t n p q r = rw (n, message) (λ i. propose (p i) (q i) (r i) t.link t.mask t.author)

        as_vote : {u h u' h' b : ℕ} → u ≡ u' → h ≡ h' → vote u h b j ≡ vote u' h' b j
        as_vote {b = b} p q = λ i. vote (p i) (q i) b j

    pub turn : Turn e p k
    unfolding voted_in
    turn = (
      (opener X genuine v inside ok l0 O).height,
      λ j hj. at_least (λ (z : Statement). z.height) (opener X genuine v inside ok l0 O).height p (keep (is_voted v) (st X j k).statements) (noted j hj),
      λ q a b. ((the_rung q b).what.name, voted q a b),
    )

  -- ---- no sound station blames v

  says_overdue : (i : ℕ) → Ok X i → (l a : ℕ) → IsSaid (run size n D event) i l (to_all (blame v a)) → Overdue (event l) (st X i l) v a
  unfolding at out
  says_overdue i hi l a s =
      all_of (Blaming (Overdue (event l) (st X i l))) (out size n D event i l) (event_says i (event l) (st X i l) (X.common l) (X.runs i hi (suc l))) (to_all (blame v a)) s

  -- who is overdue at a tick entered (2m+6)D+2 ticks ago, for the m proposes that it voted for
  overdue_bound : (i : ℕ) → Ok X i → (l : ℕ) → event l ≡ common_tick → (st X i l).view ≡ v → overdue (begun common_tick (st X i l)) ≡ true
      → (st X i l).entry + (2 * suc (voted_in v (st X i l)) + 4) * D + 2 ≤ ck X (suc l)
  unfolding voted_in
  overdue_bound i hi l tk w q =
      let u = begun common_tick (st X i l) in
      let b = begun_same common_tick (st X i l) in
      let m : votes u ≡ voted_in v (st X i l) = votes_in u v (b.2 ∙ w) ∙ ap (λ (xs : List Statement). length (keep (is_voted v) xs)) b.3 in
      let d : u.settings.D ≡ D = ap (λ (g : Settings). g.D) (b.0 ∙ at_settings X i hi l) in
      let c : u.clock ≡ ck X (suc l) = ap (λ (y : Event). (begun y (st X i l)).clock) (sym tk) ∙ begun_at X i hi l in
      overdue_since (votes u) (voted_in v (st X i l)) u.settings.D D u.entry (st X i l).entry u.clock (ck X (suc l)) m d (begun_entry common_tick (st X i l)) c (overdue_at u q)

  calm_on : (c : ℕ) → Calm X genuine v inside ok c → Calm X genuine v inside ok (suc c)
  calm_on c before i hi l a u s =
      let (tk, od, w, _) = says_overdue i hi l a s in
      let t = tick_clock X genuine v ok l tk in
      elim (dec_le (ck X (suc l)) c) [
        | yes y ↦ before i hi l a y s
        | no y ↦ (
            let calm = calm_less X genuine v inside ok (ck X l) c (before_tick (ck X l) (ck X (suc l)) c t u) before in
            let m = voted_in v (st X i l) in
            no_more m ((turn i hi l w (suc m) l calm (overdue_bound i hi l tk w od)).1 i hi))
      ]

  pub calm_all : (c : ℕ) → Calm X genuine v inside ok c
  calm_all zero = λ i hi l a u s.
      let (tk, _, _, _) = says_overdue i hi l a s in
      let t = tick_clock X genuine v ok l tk in
      absurd (no_tick (ck X l) (ck X (suc l)) t u)
  calm_all (suc c) = calm_on c (calm_all c)
