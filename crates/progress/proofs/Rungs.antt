-- The proposals of v, one above the other: each is voted for by all within D ticks, so certified at the leader within 2D, and then the
-- next one is made. It is shown while no sound station blames v. Assumes nothing.
use mathlib.Core.Path.{◌≡◌, subst, refl, sym, ap, ◌∙◌}
use Prim.Native.Nat.{ℕ, zero, suc, ◌+◌, ◌-◌, ◌*◌, ◌≤◌, ◌<◌}
use native.Mathlib.Omega.{arith}
use native.Mathlib.Nat.{le_of_lt}
use native.Mathlib.Decide.{dec_lt}
use mathlib.Core.Bool.{true, false, ◌&&◌}
use mathlib.Core.List.{List, Memᴰ}
use mathlib.Core.Logic.{◌⊎◌, inl, inr}
use mathlib.Core.Option.{some}
use lib.Dec.{eqb}
use borrow.Author.Tests.{eq-eqb, lt-ltb}
use Rattle.rules.specs.Limits.{first_view, last_view, last_height, most_statements}
use Rattle.rules.specs.Lists.{first, any}
use Rattle.rules.specs.Sizes.{Settings, leader, quorum}
use Rattle.rules.specs.Messages.{vote}
use Rattle.rules.specs.Words.{Statement, message, same_statement, voters, own_block}
use Rattle.rules.specs.Inputs.{below_lock, is_block, leads, is_opened, top, extendable}
use Rattle.laws.proofs.Tests.{by_bool, by_option, no_bool}
use Rattle.laws.proofs.Truths.{both}
use Rattle.laws.proofs.Bounds.{statements_most}
use Rattle.laws.proofs.Searches.{any_mem, first_any, first_mem, first_none}
use Rattle.laws.proofs.Statements.{same_like, In, mem_in, in_cong, no_conflict_level}
use Rattle.laws.proofs.Tallies.{sound_quorum, count_quorum}
use Rattle.laws.proofs.Offers.{top_some, top_mem}
use Rattle.laws.proofs.Kept.{true_in}
use Rattle.laws.proofs.Orderly.{propose_high, Voted}
use Rattle.laws.proofs.Held.{block, held_stored}
use Rattle.laws.proofs.Leads.{new_view_high}
use Rattle.kept.proofs.Logs.{block_parts}
use Rattle.agreement.specs.Schedule.{common_tick, run, NoForgery}
use Rattle.agreement.proofs.Lineage.{up}
use Rattle.agreement.proofs.Clock.{clock_mono, clock_before, last_of}
use Rattle.agreement.proofs.Group.{Group, st, ck, Ok, G, SaidAt, at_settings, at_clock, kept_run, orderly_run, formed_run}
use Rattle.agreement.proofs.Follow.{reach}
use Rattle.agreement.proofs.Ripe.{odd_stations, fits_mask}
use Rattle.agreement.proofs.Ancestors.{ancestors}
use Rattle.agreement.proofs.Stays.{found, same_fields, shown_stored}
use Rattle.progress.specs.Progress.{possible, Prompt}
use Rattle.progress.proofs.Entries.{Remains, entry_run}
use Rattle.progress.proofs.Leader.{L, one_new_view, source, leader_clean, ladder, tick_clock}
use Rattle.progress.proofs.Calm.{Calm, calm_less, Within, joins_calm}
use Rattle.progress.proofs.Opening.{Opens, best, opener, locks_below, opener_stored}
use Rattle.progress.proofs.Heights.{HasEach, at_least, span}

-- ---- numbers: each fact of linear arithmetic apart, with all that it rests on in view

opened_before : (e D a k : ℕ) → a ≡ e + 2 * D → e + 2 * D + 1 ≤ k → a < k
opened_before e D a k p q = omega arith

joined_by : (e D k : ℕ) → e + 2 * D + 1 ≤ k → e + D ≤ k
joined_by e D k p = omega arith

begun_by : (t s D k : ℕ) → k ≡ t + s + 2 * D → t ≤ k
begun_by t s D k p = omega arith

certified_due : (t s D c k : ℕ) → c ≤ t + s → k ≡ t + s + 2 * D + 1 → c + 2 * D + 1 ≤ k
certified_due t s D c k p q = omega arith

heard_due : (c D k l : ℕ) → c + 2 * D + 1 ≤ k → k ≤ l → c + D + 1 ≤ l
heard_due c D k l p q = omega arith

no_lower : (h p : ℕ) → h ≤ h + p
no_lower h p = omega arith

steps_down : (a b : ℕ) → a < b → b ≡ a + 1 + (b - (a + 1))
steps_down a b p = omega arith

one_up : (h p : ℕ) → h + p + 1 ≡ h + suc p
one_up h p = omega arith

said_early : (t s D c k : ℕ) → c ≤ k → k ≡ t + s + 2 * D → c ≤ t + (s + 2 * D)
said_early t s D c k p q = omega arith

opening_clock : (e D a b : ℕ) → a ≡ e + 2 * D → b ≡ a + 1 → (e + 2 * D + 1 ≤ b) × (b ≡ e + 2 * D + 1)
opening_clock e D a b p q = (omega arith, omega arith)

none_up : (h : ℕ) → h ≡ h + 0
none_up h = omega arith

said_first : (c b t : ℕ) → c ≤ b → b ≡ t → c ≤ t + 0
said_first c b t p q = omega arith

opened_by_lem : (b k t : ℕ) → b ≡ t → t + 0 < k → b ≤ k
opened_by_lem b k t p q = omega arith

rung_due : (t s D k : ℕ) → t + (s + 2 * D) < k → t + s + 2 * D < k
rung_due t s D k p = omega arith

rung_before : (t s D k : ℕ) → t + (s + 2 * D) < k → t + s < k
rung_before t s D k p = omega arith

module _ (X : Group) (genuine : NoForgery (run X.size X.n X.D X.event) X.faulty) (v : ℕ) (inside : (first_view ≤ v) × (v ≤ last_view X.size))
    (ok : Ok X (L X v)) where
  open X use {size, n, D, faulty, event, next, parent_of}

  abbrev Quiet : ℕ → Type 0
  Quiet k = Calm X genuine v inside ok (ck X k)

  module _ (l0 : ℕ) (O : Opens X genuine v inside ok l0) where
    abbrev eL : ℕ
    eL = (st X (L X v) l0).entry

    abbrev N : Statement
    N = opener X genuine v inside ok l0 O

    -- a new-view of v that a sound station stores is L's
    pub the_opener : (i : ℕ) → Ok X i → (k : ℕ) (x : Statement) → In (st X i k).statements x → x.view ≡ v → x.is_new_view ≡ true → same_statement N x ≡ true
    the_opener i hi k x a w p =
        let m = k + suc l0 in
        let c = leader_clean X genuine v ok m N x ((kept_run X (L X v) ok (suc l0) m (omega arith)).has N (opener_stored X genuine v inside ok l0 O))
        ((kept_run X (L X v) ok k m (omega arith)).has x (source X genuine v ok i hi k x a w)) refl in
        one_new_view N x c w refl p

    -- ---- a stored statement of v is voted for, from the entry on

    abbrev Cast : (s k : ℕ) → Statement → Type 0
    Cast s k x = (c : ℕ) × ((st X s k).entry ≤ c) × (c ≤ ck X k) × Voted (SaidAt X s) c s x

    pub high : (s : ℕ) → Ok X s → (k : ℕ) → (st X s k).view ≡ v → (st X s k).entry ≤ eL + D → (x : Statement) → In (st X s k).statements x → x.view ≡ v → below_lock x (st X s k) ≡ false
    high s hs k w d x a q =
        by_bool x.is_new_view
        (λ p.
        let e = same_like N x (the_opener s hs k x a q p) in
        new_view_high x (st X s k) (best X genuine v inside ok l0 O) p (ap (λ (y : Statement). y.link) e) (ap (λ (y : Statement). y.height) e) (locks_below X genuine v inside ok l0 O s hs k w d))
        (λ p. propose_high x (st X s k) p)

    pub cast : (s : ℕ) → Ok X s → (k : ℕ) → Quiet k → eL + D ≤ ck X k → (x : Statement) → In (st X s k).statements x → x.view ≡ v → Cast s k x
    cast s hs k calm d x a q =
        let ((w, p), e) = joins_calm X genuine v inside ok (L X v) s ok hs l0 O.within.0 k calm d in
        let (z, f, m) = found x (st X s k).statements a in
        let (c, _, lo, hi, vt) = (orderly_run X s hs k).votes p x z f (high s hs k w e x a q) (q ∙ sym w) in
        let cl = at_clock X s hs k in
        (c, lo, omega arith, subst (λ (g : Settings). Voted (SaidAt X s) c g.own x) (at_settings X s hs k) vt)

    -- ---- what L said is stored by all D ticks later

    pub heard_by : (s : ℕ) → Ok X s → (c k : ℕ) (x : Statement) → Voted (SaidAt X (L X v)) c (L X v) x → c + D + 1 ≤ next k → In (st X s k).statements x
    heard_by s hs c k x (y, e, m, _) d =
        in_cong x y e (st X s k).statements ∙ held_stored (G X s) (st X s k) y (reach X (L X v) s ok hs (message y) c k m d)

    -- the vote of s for what L said at clock c comes by clock c + D
    pub follows : (s : ℕ) → Ok X s → (c k : ℕ) (x : Statement) → x.view ≡ v → Voted (SaidAt X (L X v)) c (L X v) x → eL ≤ c → c + D < ck X (suc k) → Quiet k
        → (c' : ℕ) × (c' ≤ c + D) × Voted (SaidAt X s) c' s x
    follows s hs c k x q vt lo d calm =
        let (l, before, c1, c2, _) = last_of event X.common (c + D) (suc k) d in
        let sn = X.soon l in
        let calm' = calm_less X genuine v inside ok (ck X l) (ck X k) (clock_mono event l k (omega arith)) calm in
        let (c', _, hi, w) = cast s hs l calm' (omega arith) x (heard_by s hs c l x vt (omega arith)) q in
        (c', omega arith, w)

    -- ---- 2D ticks after L said it, it is certified at L

    pub certified_by : (c k : ℕ) (x : Statement) → x.view ≡ v → Voted (SaidAt X (L X v)) c (L X v) x → eL ≤ c → c + 2 * D + 1 ≤ ck X (suc k) → Quiet k
        → quorum (G X (L X v)) (voters (block x.view x.height x.name) (st X (L X v) k).tallies) ≡ true
    certified_by c k x q vt lo d calm =
        count_quorum (G X (L X v)) (voters (block x.view x.height x.name) (st X (L X v) k).tallies)
        (sound_quorum n (voters (block x.view x.height x.name) (st X (L X v) k).tallies) faulty (fits_mask X) (odd_stations X) X.few
        (λ i u f.
        let (c', hi, (y, e, m, w)) = follows i (u, f) c k x q vt lo (omega arith) calm in
        let sn = X.soon k in
        reach X i (L X v) (u, f) ok (vote x.view x.height x.name i) c' k w (omega arith)))

    -- ---- its height is below the last

    pub low_enough : (c k : ℕ) (x : Statement) → Voted (SaidAt X (L X v)) c (L X v) x → c + D + 1 ≤ next k → x.height < last_height
    low_enough c k x (y, e, m, (l, ce, w)) d =
        let xs = (st X (L X v) k).statements in
        let shown = ancestors X c x.view x.height x.name ((L X v), l, ok, omega arith, w) in
        let each : HasEach (λ (z : Statement). z.height) 0 x.height xs = λ q a b.
        let h = shown_stored X (L X v) ok k c (x.height - (x.height - q)) (up parent_of (x.height - q) x.name) d (shown (x.height - q) (omega arith)) in
        let (z, f) = stored_at xs (x.height - (x.height - q)) (up parent_of (x.height - q) x.name) h in
        (z, f.0, f.1 ∙ omega arith) in
        let many = at_least (λ (z : Statement). z.height) 0 x.height xs each in
        let few = (formed_run X (L X v) ok k).few_statements in
        let g : most_statements (st X (L X v) k).settings.size ≡ most_statements size = ap (λ (y : Settings). most_statements y.size) (at_settings X (L X v) ok k) in
        let most = statements_most size in
        omega arith
      where
        stored_at : (xs : List Statement) (h b : ℕ) → any (is_block h b) xs ≡ true → (z : Statement) × (Memᴰ z xs × (z.height ≡ h))
        stored_at xs h b a =
            by_option (first (is_block h b) xs) (λ f. no_bool (sym a ∙ first_none (is_block h b) xs f))
            (λ z f. (z, (first_mem (is_block h b) xs z f, sym (block_parts h b z (first_any (is_block h b) xs z f).1).1)))

    -- ---- as a tick begins, one above what is certified is stored

    module _ (prompt : Prompt (run size n D event) v) where
      pub taller : (k : ℕ) → event k ≡ common_tick → Within X genuine v inside ok (L X v) k → In (st X (L X v) k).statements N → (x : Statement) → In (st X (L X v) k).statements x → x.view ≡ v
          → quorum (G X (L X v)) (voters (block x.view x.height x.name) (st X (L X v) k).tallies) ≡ true → x.height < last_height
          → (z : Statement) × In (st X (L X v) k).statements z × (z.view ≡ v) × (x.height < z.height)
      unfolding possible leads is_opened extendable own_block leader
      taller k e (w, p) a x b q cert low =
          let s = st X (L X v) k in
          let xs = s.statements in
          let g = at_settings X (L X v) ok k in
          let (y, f, m) = found x xs b in
          let (_, yv, yh, _) = same_fields x xs y f in
          let (z, t, h) = top_some v xs y m (yv ∙ q) in
          let (zm, zv) = top_mem v xs z t in
          let (o, of, om) = found N xs a in
          let (ok1, ov, _, _) = same_fields N xs o of in
          elim (dec_lt x.height z.height) [
            | yes d ↦ (z, mem_in xs z zm, zv, d)
            | no d ↦ (
                let zh : z.height ≡ x.height = omega arith in
                let zn : z.name ≡ x.name = no_conflict_level x z (leader_clean X genuine v ok k x z b (mem_in xs z zm) q) (zv ∙ sym q) zh in
                let leading : leads s ≡ true = both (true_in s.view s p refl) (eq-eqb (leader s.settings s.view) s.settings.own (ap (λ (y : Settings). leader y s.view) g ∙ ap (leader (G X (L X v))) w ∙ sym (ap (λ (y : Settings). y.own) g))) in
                let opened : is_opened s ≡ true = any_mem (λ (y : Statement). y.is_new_view && eqb y.view s.view) xs o om (both ok1 (eq-eqb o.view s.view (ov ∙ sym w))) in
                let tops : top s.view xs ≡ some z = subst (λ (y : ℕ). top y xs ≡ some z) (sym w) t in
                let quorate : quorum s.settings (voters (own_block z 0) s.tallies) ≡ true = rw (g, zv ∙ sym q, zh, zn) cert in
                let extends : extendable z s ≡ true = both quorate (lt-ltb z.height last_height (omega arith)) in
                let can : possible s ≡ true = rw (leading, opened, tops, extends) refl in
                no_bool (sym can ∙ prompt k e w))
          ]

      -- ---- down the ladder

      -- from one of greater height to the one just above h
      descend : (k h d : ℕ) (z : Statement) → N.height ≤ h → z.height ≡ h + 1 + d → In (st X (L X v) k).statements z → z.view ≡ v
          → (w : Statement) × In (st X (L X v) k).statements w × (w.view ≡ v) × (w.height ≡ h + 1) × (w.is_new_view ≡ false)
      descend k h d z o e a q = by_bool z.is_new_view (λ p. let f = ap (λ (y : Statement). y.height) (same_like N z (the_opener (L X v) ok k z a q p)) in absurd (omega arith)) (λ p. down k h d z o e a q p)
        where
          down : (k h d : ℕ) (z : Statement) → N.height ≤ h → z.height ≡ h + 1 + d → In (st X (L X v) k).statements z → z.view ≡ v → z.is_new_view ≡ false
              → (w : Statement) × In (st X (L X v) k).statements w × (w.view ≡ v) × (w.height ≡ h + 1) × (w.is_new_view ≡ false)
          down k h zero z o e a q p = (z, a, q, e ∙ omega arith, p)
          down k h (suc d) z o e a q p =
              let (y, b, yv, f) = ladder X genuine v ok k z a q p in
              by_bool y.is_new_view (λ r. let g = ap (λ (t : Statement). t.height) (same_like N y (the_opener (L X v) ok k y b yv r)) in absurd (omega arith))
              (λ r. down k h d y o (omega arith) b yv r)

      -- ---- the rungs

      abbrev T : ℕ
      T = eL + 2 * D + 1

      -- the p-th proposal, said by L by clock T + 2pD; the 0-th is the new-view
      pub record Rung (p : ℕ) : Type 0 where
        pub what : Statement
        pub view : what.view ≡ v
        pub height : what.height ≡ N.height + p
        pub kind : 1 ≤ p → what.is_new_view ≡ false
        pub clock : ℕ
        pub entered : eL ≤ clock
        pub early : clock ≤ T + span D p
        pub said : Voted (SaidAt X (L X v)) clock (L X v) what

      entry_now : (k : ℕ) → l0 ≤ k → (st X (L X v) k).view ≡ v → (st X (L X v) k).entry ≡ eL
      entry_now k l w = go (entry_run X (L X v) ok l0 k l)
        where
          go : Remains (st X (L X v) l0) (st X (L X v) k) ⊎ (((st X (L X v) l0).view < (st X (L X v) k).view) × (ck X (suc l0) ≤ (st X (L X v) k).entry)) → (st X (L X v) k).entry ≡ eL
          go (inl (_, e, _)) = e
          go (inr (d, _)) = let u = O.within.0 in absurd (omega arith)

      -- L is in v from that tick on
      still : (k : ℕ) → Quiet k → T ≤ ck X k → (l0 < k) × Within X genuine v inside ok (L X v) k × ((st X (L X v) k).entry ≡ eL)
      still k calm d =
          let later = clock_before event l0 k (opened_before eL D (ck X l0) (ck X k) O.due d) in
          let (win, _) = joins_calm X genuine v inside ok (L X v) (L X v) ok ok l0 O.within.0 k calm (joined_by eL D (ck X k) d) in
          (later, win, entry_now k (le_of_lt later) win.0)

      -- at the tick to T + 2pD + 2D + 1 the next one is stored
      next_stored : (p : ℕ) → Rung p → (l : ℕ) → event l ≡ common_tick → ck X l ≡ T + span D p + 2 * D → ck X (suc l) ≡ T + span D p + 2 * D + 1 → Quiet l
          → (w : Statement) × In (st X (L X v) l).statements w × (w.view ≡ v) × (w.height ≡ N.height + p + 1) × (w.is_new_view ≡ false)
      next_stored p r l tk c1 c2 calm =
          let (later, win, _) = still l calm (begun_by T (span D p) D (ck X l) c1) in
          let due : r.clock + 2 * D + 1 ≤ ck X (suc l) = certified_due T (span D p) D r.clock (ck X (suc l)) r.early c2 in
          let soon : r.clock + D + 1 ≤ next l = heard_due r.clock D (ck X (suc l)) (next l) due (X.soon l) in
          let x = r.what in
          let (z, a, q, h) = taller l tk win ((kept_run X (L X v) ok (suc l0) l later).has N (opener_stored X genuine v inside ok l0 O)) x
          (heard_by (L X v) ok r.clock l x r.said soon) r.view (certified_by r.clock l x r.view r.said r.entered due calm)
          (low_enough r.clock l x r.said soon) in
          descend l (N.height + p) (z.height - (N.height + p + 1)) z (no_lower N.height p) (steps_down (N.height + p) z.height (subst (λ (y : ℕ). y < z.height) r.height h)) a q

      rung_on : (p : ℕ) → Rung p → (l : ℕ) → event l ≡ common_tick → ck X l ≡ T + span D p + 2 * D → ck X (suc l) ≡ T + span D p + 2 * D + 1 → Quiet l → Rung (suc p)
      unfolding span
      rung_on p r l tk c1 c2 calm =
          let (w, b, wv, wh, wk) = next_stored p r l tk c1 c2 calm in
          let d = begun_by T (span D p) D (ck X l) c1 in
          let (_, _, e) = still l calm d in
          let (c, lo, hi, vt) = cast (L X v) ok l calm (joined_by eL D (ck X l) d) w b wv in
          record {
            what = w;
            view = wv;
            height = wh ∙ one_up N.height p;
            kind = λ u. wk;
            clock = c;
            entered = subst (λ (y : ℕ). y ≤ c) e lo;
            early = said_early T (span D p) D c (ck X l) hi c1;
            said = vt;
          }

      rung_first : Quiet (suc l0) → Rung 0
      unfolding span
      rung_first calm =
          let d : T ≤ ck X (suc l0) = (opening_clock eL D (ck X l0) (ck X (suc l0)) O.due (tick_clock X genuine v ok l0 O.tick)).0 in
          let (_, _, e) = still (suc l0) calm d in
          let (c, lo, hi, vt) = cast (L X v) ok (suc l0) calm (joined_by eL D (ck X (suc l0)) d) N (opener_stored X genuine v inside ok l0 O) refl in
          record {
            what = N;
            view = refl;
            height = none_up N.height;
            kind = λ u. absurd (omega (arith, u));
            clock = c;
            entered = subst (λ (y : ℕ). y ≤ c) e lo;
            early = said_first c (ck X (suc l0)) T hi (opening_clock eL D (ck X l0) (ck X (suc l0)) O.due (tick_clock X genuine v ok l0 O.tick)).1;
            said = vt;
          }

      pub rung : (p k : ℕ) → Quiet k → T + span D p < ck X k → Rung p
      unfolding span
      rung zero k calm d =
          let b = (opening_clock eL D (ck X l0) (ck X (suc l0)) O.due (tick_clock X genuine v ok l0 O.tick)).1 in
          rung_first (calm_less X genuine v inside ok (ck X (suc l0)) (ck X k) (opened_by_lem (ck X (suc l0)) (ck X k) T b d) calm)
      rung (suc p) k calm d =
          let (l, before, c1, c2, tk) = last_of event X.common (T + span D p + 2 * D) k (rung_due T (span D p) D (ck X k) d) in
          rung_on p (rung p k calm (rung_before T (span D p) D (ck X k) d)) l tk c1 c2 (calm_less X genuine v inside ok (ck X l) (ck X k) (clock_mono event l k (le_of_lt before)) calm)
