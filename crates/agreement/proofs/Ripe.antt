-- G3: a propose is ripe when a sound station that voted for it at clock t is in its view as the tick to t+2D+1 begins. Then no
-- sound station has quit the view by t+D, all have voted for it and for nothing that conflicts, and all lock at or above it later. Assumes nothing.
use mathlib.Core.Path.{◌≡◌, subst, sym, ap, ◌∙◌}
use Prim.Native.Nat.{ℕ, zero, suc, ◌+◌, ◌*◌, ◌%◌, ◌≤◌, ◌<◌}
use native.Mathlib.Omega.{arith}
use native.Mathlib.Nat.{le_of_eq, lt_of_lt_of_le}
use native.Mathlib.Decide.{dec_lt, dec_le}
use mathlib.Core.Bool.{false}
use mathlib.Core.List.{List}
use Rattle.rules.specs.Limits.{mask_bits, first_view}
use Rattle.rules.specs.Lists.{first}
use Rattle.rules.specs.Sizes.{Settings, bit}
use Rattle.rules.specs.Messages.{vote, Effect}
use Rattle.rules.specs.Words.{Statement, message, same_statement, conflict, Certificate, Tally, voters, State, in_view, waiting, fresh}
use Rattle.laws.proofs.Tests.{by_option, no_bool}
use Rattle.laws.proofs.Searches.{first_none}
use Rattle.laws.proofs.Statements.{In, in_cong}
use Rattle.laws.proofs.Tallies.{Above}
use Rattle.laws.proofs.Allowed.{sizes}
use Rattle.laws.proofs.Moves.{Moves}
use Rattle.laws.proofs.Kept.{by_phase, moves_kept}
use Rattle.laws.proofs.Orderly.{propose_high, Told, Past, past_told, Voted}
use Rattle.laws.proofs.Held.{block, held_stored}
use Rattle.laws.proofs.Votes.{Cast}
use Rattle.laws.proofs.Locks.{HasAll, Locked, moves_locked}
use Rattle.agreement.specs.Schedule.{Event, at}
use Rattle.agreement.proofs.Events.{Brings, begun, begun_same, begun_kept}
use Rattle.agreement.proofs.Clock.{last_of}
use Rattle.agreement.proofs.Group.{Group, st, ck, Ok, G, SaidAt, moves_of, at_settings, at_clock, kept_run, orderly_run, view_run}
use Rattle.agreement.proofs.Follow.{follow, reach, told_out}

module _ (X : Group) where
  open X use {size, n, D, faulty, event, next, parent_of}

  pub odd_stations : n % 2 ≡ 1
  odd_stations = (sizes (G X 0) X.settings).odd

  pub fits_mask : n ≤ mask_bits
  fits_mask = let m = (sizes (G X 0) X.settings).most in omega arith

  pub past_of : (i : ℕ) → Ok X i → (k : ℕ) → Past (SaidAt X i) (G X i) (st X i k).view (st X i k).entry
  past_of i h k = subst (λ (g : Settings). Past (SaidAt X i) g (st X i k).view (st X i k).entry) (at_settings X i h k) (orderly_run X i h k).past

  pub quit_of : (i : ℕ) → Ok X i → (k q : ℕ) → (st X i k).phase ≡ waiting q → (q ≤ ck X k) × Told (SaidAt X i) (G X i) q (st X i k).view
  quit_of i h k q p =
      let r = (orderly_run X i h k).quits q p in
      (rw (at_clock X i h k) at r.1, subst (λ (g : Settings). Told (SaidAt X i) g q (st X i k).view) (at_settings X i h k) r.2)

  pub entry_of : (i : ℕ) → Ok X i → (k : ℕ) → (st X i k).entry ≤ ck X k
  entry_of i h k = rw (at_clock X i h k) at (orderly_run X i h k).order

  -- r, in x's view at moment k0, at the latest before the tick to t + 2D + 1, has voted for the propose x at clock t
  pub record Ripe (r k0 t : ℕ) (x : Statement) : Type 0 where
    pub ok : Ok X r
    pub phase : (st X r k0).phase ≡ in_view
    pub view : x.view ≡ (st X r k0).view
    pub kind : x.is_new_view ≡ false
    pub entry : (st X r k0).entry ≤ t
    pub due : t + 2 * D + 1 ≤ next k0
    pub sent : Voted (SaidAt X r) t r x

  module _ (r k0 t : ℕ) (x : Statement) (R : Ripe r k0 t x) where
    pub ripe_view : first_view ≤ x.view
    ripe_view = rw R.view (view_run X r R.ok k0).0

    -- G3a: no sound station has quit the view by clock t + D
    quit_late : (s : ℕ) → Ok X s → (q : ℕ) → Told (SaidAt X s) (G X s) q x.view → t + D < q
    quit_late s hs q told =
        elim (dec_lt (t + D) q) [
          | yes y ↦ y
          | no y ↦ (let d = R.due in absurd (told_out X s r hs R.ok q x.view k0 told (omega arith) (sym R.view) R.phase))
        ]

    -- the moment before the tick to t + D + 1
    mid : (l : ℕ) × (l < k0) × (ck X l ≡ t + D) × (ck X (suc l) ≡ t + D + 1)
    mid =
        let d = R.due in
        let u = X.late k0 in
        let delay = (sizes (G X 0) X.settings).leastD in
        let m = last_of event X.common (t + D) k0 (omega arith) in
        (m.0, m.1, m.2, m.3)

    -- G3b: at that moment every sound station is in the view, holds x and has voted for it
    pub record Shares (s k : ℕ) : Type 0 where
      pub view : (st X s k).view ≡ x.view
      pub phase : (st X s k).phase ≡ in_view
      pub has : In (st X s k).statements x
      pub voted : (c : ℕ) × (c ≤ t + D) × Voted (SaidAt X s) c s x

    cast_of : (s : ℕ) → Ok X s → (k b : ℕ) → (st X s k).phase ≡ in_view → In (st X s k).statements x → x.view ≡ (st X s k).view → ck X k ≤ b
        → (c : ℕ) × (c ≤ b) × Voted (SaidAt X s) c s x
    cast_of s hs k b p a v l =
        by_option (first (same_statement x) (st X s k).statements) (λ f. no_bool (sym a ∙ first_none (same_statement x) (st X s k).statements f)) λ z f.
        let (c, e, lo, hi, vt) = (orderly_run X s hs k).votes p x z f (propose_high x (st X s k) R.kind) v in
        let cl = at_clock X s hs k in
        (c, omega arith, subst (λ (g : Settings). Voted (SaidAt X s) c g.own x) (at_settings X s hs k) vt)

    shares : (s : ℕ) → Ok X s → (k : ℕ) → ck X k ≡ t + D → ck X (suc k) ≡ t + D + 1 → Shares s k
    shares s hs k c1 c2 =
        let late = quit_late s hs in
        let e0 = R.entry in
        let sn = X.soon k in
        let low : x.view ≤ (st X s k).view = rw R.view (follow X r s R.ok hs (past_of r R.ok k0) k (omega arith)) in
        let en = entry_of s hs k in
        let v : (st X s k).view ≡ x.view =
        elim (dec_lt x.view (st X s k).view) [
          | yes y ↦ (
              let g = past_told (SaidAt X s) (past_of s hs k) x.view ripe_view y in
              let z = late g.0 g.2 in let b = g.1 in absurd (omega arith))
          | no y ↦ omega arith
        ] in
        let p : (st X s k).phase ≡ in_view =
        by_phase (st X s k) (X.runs s hs k) (λ p. p)
        (λ q p.
        let (b, told) = quit_of s hs k q p in
        let z = late q (subst (λ (w : ℕ). Told (SaidAt X s) (G X s) q w) v told) in
        absurd (omega arith)) in
        let (y, e, m, w) = R.sent in
        let a : In (st X s k).statements x = in_cong x y e (st X s k).statements ∙ held_stored (G X s) (st X s k) y (reach X r s R.ok hs (message y) t k m (omega arith)) in
        record { view = v; phase = p; has = a; voted = cast_of s hs k (t + D) p a (sym v) (le_of_eq c1) }

    -- a vote at event k
    abbrev CastAt : (s k v h b : ℕ) → Type 0
    CastAt s k v h b = Cast (SaidAt X s) (Brings s (event k) (st X s k)) (begun (event k) (st X s k)) (st X s (suc k)) v h b

    -- G3c: a sound vote in x's view is for a statement that does not conflict with x
    pub no_rival : (s : ℕ) → Ok X s → (k v h b : ℕ) (c : CastAt s k v h b) → v ≡ x.view → conflict x c.stands.what ≡ false
    no_rival s hs k v h b c e =
        let l = mid in
        let y = c.stands in
        let w = y.what in
        let sh = shares s hs l.0 l.2 l.3 in
        elim (dec_le (suc k) l.0) [
          | yes d ↦ (
              let has = (kept_run X s hs (suc k) l.0 d).has w ((moves_kept c.after).has w y.has) in
              (orderly_run X s hs l.0).clean sh.phase x w sh.has has (sym sh.view))
          | no d ↦ (
              let still = (kept_run X s hs l.0 k (omega arith)).has x sh.has in
              let has = (moves_kept c.before).has x ((begun_kept (event k) (st X s k)).has x still) in
              c.orderly.clean y.phase x w has y.has (sym e ∙ sym y.current))
        ]

    -- ---- G3d: from the tick to t + 2D + 1 on every sound station has all sound votes for x, and locks at or above it in later views

    abbrev B : Certificate
    B = block x.view x.height x.name

    abbrev Saw : State → Type 0
    Saw = HasAll n faulty fits_mask odd_stations X.few B

    abbrev pub LocksAbove : State → Type 0
    LocksAbove = Locked n faulty fits_mask odd_stations X.few B

    pub all_voted : (j : ℕ) → Ok X j → (k : ℕ) → t + 2 * D + 1 ≤ next k → Saw (st X j k)
    all_voted j hj k d = (
      ap (λ (g : Settings). g.n) (at_settings X j hj k),
      λ i l f.
          let m = mid in
          let sh = shares i (l, f) m.0 m.2 m.3 in
          let vt = sh.voted in
          let lt = vt.1 in
          reach X i j (l, f) hj (vote x.view x.height x.name i) vt.0 k vt.2.3 (omega arith),
    )

    -- whoever is past x's view got there after all votes for x
    past_late : (j : ℕ) → Ok X j → (k : ℕ) → x.view < (st X j k).view → t + 2 * D + 1 ≤ ck X k
    past_late j hj k l =
        let g = past_told (SaidAt X j) (past_of j hj k) x.view ripe_view l in
        let z = quit_late j hj g.0 g.2 in
        let b = g.1 in
        let e = entry_of j hj k in
        omega arith

    begun_saw : (e : Event) (s : State) → Saw s → Saw (begun e s)
    begun_saw e s h =
        let (a, p, v, c, b, d, l) = begun_same e s in
        (ap (λ (g : Settings). g.n) a ∙ h.0, λ i u f. subst (λ (ts : List Tally). bit (voters B ts) i ≡ 1) (sym b) (h.1 i u f))

    begun_locked : (e : Event) (s : State) → LocksAbove s → LocksAbove (begun e s)
    begun_locked e s h u =
        let (a, p, v, c, b, d, l) = begun_same e s in
        subst (λ (y : Certificate). Above y B) (sym l) (h (subst (λ (y : ℕ). x.view < y) v u))

    -- along the moves of event k, from a moment at which what is needed holds
    along : (j : ℕ) → Ok X j → (k : ℕ) → LocksAbove (st X j k) → t + 2 * D + 1 ≤ next k → (u : State) (o : List Effect)
        → Moves (Brings j (event k) (st X j k)) (begun (event k) (st X j k)) u o → LocksAbove u
    along j hj k h d u o w =
        (moves_locked n faulty fits_mask odd_stations X.few B (begun (event k) (st X j k)) u o w
        (begun_saw (event k) (st X j k) (all_voted j hj k d)) (begun_locked (event k) (st X j k) h)).1

    lock_run : (j : ℕ) → Ok X j → (k : ℕ) → LocksAbove (st X j k)
    unfolding at fresh
    lock_run j hj zero l = let z = ripe_view in absurd (omega arith)
    lock_run j hj (suc k) l =
        let d = past_late j hj (suc k) l in
        let s = X.soon k in
        let (o, q, w) = moves_of X j hj k in
        along j hj k (lock_run j hj k) (omega arith) (st X j (suc k)) o w l

    pub cast_lock : (j : ℕ) → Ok X j → (k v h b : ℕ) (c : CastAt j k v h b) → LocksAbove c.at
    cast_lock j hj k v h b c l =
        let u = (moves_kept c.after).view in
        let d = past_late j hj (suc k) (lt_of_lt_of_le l u) in
        let s = X.soon k in
        along j hj k (lock_run j hj k) (omega arith) c.at c.said c.before l
