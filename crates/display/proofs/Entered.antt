-- A waiting station that a tick takes into its next view votes at that clock for all that it shows, so that each has 2D+1 ticks left. Assumes nothing.
use mathlib.Core.Path.{◌≡◌, refl, sym, ap, subst, ◌∙◌}
use Prim.Native.Nat.{ℕ, ◌+◌, ◌-◌, ◌*◌}
use native.Mathlib.Omega.{arith}
use mathlib.Core.Bool.{true, false, not}
use mathlib.Core.List.Memᴰ
use mathlib.Core.List.{List, [], ◌∷◌, Memᴰ as Mem}
use mathlib.Core.Logic.{◌⊎◌, inl, inr}
use mathlib.Core.Option.{some, some-injective}
use lib.IntN.{pos, sub_ℕ}
use borrow.Author.Tests.{not-true, le-ltb}
use Rattle.rules.specs.Lists.{any, alter, distinct}
use Rattle.rules.specs.Sizes.{Settings}
use Rattle.rules.specs.Words.{Statement, same_statement, in_view, waiting, State}
use Rattle.rules.specs.Inputs.{Work, saying, ◌▸◌, with_phase, with_clock, with_tables, with_log, entering, is_in, quit, below_lock, noted, voted_for, blame_full, due, commits, logging, overdue, complain, leads, leads_now, lead, enters_now, entered, current, pair, in_order, voting_all, enter}
use Rattle.rules.specs.Refusals.{done, running, tick}
use Rattle.rules.specs.Display.{Shown, due_clock, shown, display}
use Rattle.laws.proofs.Tests.{by_bool, by_option, no_bool, no_some}
use Rattle.laws.proofs.Truths.{and_2}
use Rattle.laws.proofs.Searches.{by_mem, any_mem}
use Rattle.laws.proofs.Statements.{same_like, same_sym, same_cong, noted_same, mem_in, in_keep, in_order_lem}
use Rattle.laws.proofs.Moves.{arrived, counted, voting_low, voting_high, arrive_full, arrive_pair, arrive_clean, ticked_none, ticked_some, tick_done}
use Rattle.laws.proofs.Kept.{no_phase, in_true, voting_all_fixed}
use Rattle.kept.proofs.Lists.{distinct_alter}
use Rattle.display.proofs.Shown.{shown_parts, shows}

-- ---- votes

-- after a vote at clock c for what is the same as y
noted_or : (y x : Statement) (c : ℕ) (xs : List Statement) → distinct same_statement xs ≡ true → Mem x (alter (same_statement y) (noted c) xs)
    → (x.voted ≡ some c) ⊎ (Mem x xs × (same_statement y x ≡ false))
unfolding alter distinct noted
noted_or y x c [] o m = absurd (Memᴰ.not-nil m)
noted_or y x c (z ∷ zs) o m =
    let (n, d) = and_2 (not (any (same_statement z) zs)) (distinct same_statement zs) o in
    by_bool (same_statement y z)
    (λ q.
    by_mem (rw (q, alter) at m) (λ e. inl (ap (λ (w : Statement). w.voted) e))
    (λ t.
    inr (
      Mem.tail t,
      by_bool (same_statement y x)
          (λ r. no_bool (sym (any_mem (same_statement z) zs x t (sym (same_cong y z x q) ∙ r)) ∙ not-true (any (same_statement z) zs) n))
          (λ r. r),
    )))
    (λ q. by_mem (rw (q, alter) at m) (λ e. inr (Mem.head e, ap (same_statement y) e ∙ q)) (λ t. later (noted_or y x c zs d t)))
  where
    later : (x.voted ≡ some c) ⊎ (Mem x zs × (same_statement y x ≡ false)) → (x.voted ≡ some c) ⊎ (Mem x (z ∷ zs) × (same_statement y x ≡ false))
    later (inl e) = inl e
    later (inr (t, e)) = inr (Mem.tail t, e)

same_noted : (c : ℕ) (x y : Statement) → same_statement (noted c x) y ≡ same_statement x y
same_noted c x y = same_sym (noted c x) y ∙ noted_same y x c ∙ same_sym y x

abbrev VotedOr : ℕ → Statement → List Statement → List Statement → Type 0
VotedOr c x xs ys = (x.voted ≡ some c) ⊎ (Mem x xs × (any (same_statement x) ys ≡ false))

-- a propose is voted for at this clock, or was stored and none of those to be voted for
votes_all : (ys : List Statement) (s : State) (x : Statement) → distinct same_statement s.statements ≡ true → x.is_new_view ≡ false → Mem x (voting_all ys s).now.statements
    → VotedOr s.clock x s.statements ys
unfolding voting_all saying any ◌▸◌ voted_for with_tables below_lock
votes_all [] s x o n m = inr (m, refl)
votes_all (y ∷ ys) s x o n m =
    by_bool (below_lock y s) (λ l. low (and_2 y.is_new_view _ l).0 (votes_all ys s x o n (rw (voting_low y s l) at m)))
    (λ l.
    let d = distinct_alter same_statement (same_statement y) (noted s.clock) (same_noted s.clock) (λ a b. noted_same a b s.clock) s.statements ∙ o in
    high (votes_all ys (voted_for y s) x d n (rw (voting_high y s l) at m)))
  where
    apart : y.is_new_view ≡ true → same_statement x y ≡ false
    apart k = by_bool (same_statement x y) (λ q. no_bool (sym k ∙ ap (λ (w : Statement). w.is_new_view) (same_like x y q) ∙ n)) (λ q. q)

    low : y.is_new_view ≡ true → VotedOr s.clock x s.statements ys → VotedOr s.clock x s.statements (y ∷ ys)
    low k (inl e) = inl e
    low k (inr (t, e)) = inr (t, rw (apart k, any) e)

    first : any (same_statement x) ys ≡ false → (x.voted ≡ some s.clock) ⊎ (Mem x s.statements × (same_statement y x ≡ false)) → VotedOr s.clock x s.statements (y ∷ ys)
    first e (inl v) = inl v
    first e (inr (t, f)) = inr (t, rw (same_sym x y ∙ f, any) e)

    high : VotedOr s.clock x (alter (same_statement y) (noted s.clock) s.statements) ys → VotedOr s.clock x s.statements (y ∷ ys)
    high (inl e) = inl e
    high (inr (t, e)) = first e (noted_or y x s.clock s.statements o t)

voted_now : (s : State) (x : Statement) → x.view ≡ s.view → VotedOr s.clock x s.statements (in_order (current s)) → x.voted ≡ some s.clock
unfolding current
voted_now s x v (inl e) = e
voted_now s x v (inr (m, e)) = no_bool (sym (in_order_lem (same_statement x) (current s) ∙ in_keep s.view x s.statements v (mem_in s.statements x m)) ∙ e)

ahead : (c k : ℕ) → sub_ℕ (c + k) c ≡ pos k
ahead c k = let e : c + k - c ≡ k = omega arith in rw (le-ltb (c + k) c (omega arith), e)

-- the votes of an entry: all that is shown is due 2D+1 ticks later
votes_left : (s : State) → distinct same_statement s.statements ≡ true → (z : Shown) → Mem z (display (voting_all (in_order (current s)) s).now) → z.ticks_left ≡ pos (2 * s.settings.D + 1)
unfolding display shown due_clock
votes_left s o z m =
    let t = (voting_all (in_order (current s)) s).now in
    let k = shows t t.statements z m in
    let x = k.what in
    let (n, i, g) = shown_parts t x k.may in
    let ((sg, ck, lg), ph, vw, lk) = voting_all_fixed (in_order (current s)) s in
    let v = voted_now s x ((in_true x.view t i).1 ∙ vw) (votes_all (in_order (current s)) s x o n k.stored) in
    let c : k.vote ≡ s.clock = some-injective k.vote s.clock (sym k.voted ∙ v) in
    let d : k.vote + 2 * t.settings.D + 1 ≡ t.clock + (2 * s.settings.D + 1) = omega (arith, c, ck, ap (λ (r : Settings). r.D) sg) in
    ap (λ (r : Shown). r.ticks_left) k.is ∙ ap (λ (r : ℕ). sub_ℕ r t.clock) d ∙ ahead t.clock (2 * s.settings.D + 1)

-- ---- the tick

module _ (s : State) (q : ℕ) (w : s.phase ≡ waiting q) where
  waits_out : (v : ℕ) → is_in v s ≡ false
  unfolding is_in
  waits_out v = rw (w, is_in)

  complain_waits : complain s ≡ saying s []
  unfolding complain overdue
  complain_waits = rw (waits_out s.view, complain)

  lead_waits : lead s ≡ saying s []
  unfolding lead leads_now leads
  lead_waits = rw (waits_out s.view, lead)

  -- it enters, and votes for what it holds of the view
  enter_votes : (enter s).now.phase ≡ in_view → (enter s).now ≡ (voting_all (in_order (current (arrived s))) (arrived s)).now
  unfolding enter entered saying ◌▸◌ quit with_phase entering
  enter_votes e =
      let a = arrived s in
      by_bool (enters_now s)
      (λ n.
      by_bool (blame_full a.view a) (λ c. no_phase (rw (n, enter, arrive_full a c) at e)) λ c.
      by_option (pair (current a)) (λ p. rw (n, enter, arrive_clean a c p)) (λ r p. no_phase (rw (n, enter, arrive_pair a r c p) at e)))
      (λ n. no_phase (sym w ∙ (rw (n, enter) at e)))

module _ (s : State) (q : ℕ) (w : s.phase ≡ waiting q) (e : (tick s).next.phase ≡ in_view) where
  tick_enters : (l : List ℕ) × ((tick s).next ≡ (voting_all (in_order (current (arrived (with_log l (counted s))))) (arrived (with_log l (counted s)))).now)
  unfolding running done logging saying ◌▸◌ counted with_clock with_log
  tick_enters =
      let t = counted s in
      let (k, f, d) = tick_done s (rw (e, running)) in
      by_option (commits t.statements (due t) t.log) (λ c. no_some (sym (ticked_none s c) ∙ f)) λ l c.
      let u = with_log l t in
      let g : k ≡ (logging l t ▸ complain ▸ lead ▸ enter) = some-injective _ _ (sym f ∙ ticked_some s l c) in
      let h : (tick s).next ≡ (enter u).now = ap (λ (r : _). r.next) d ∙ ap (λ (r : Work). r.now) g ∙ rw (complain_waits u q w, lead_waits u q w) in
      (l, h ∙ enter_votes u q w (sym (ap (λ (r : State). r.phase) h) ∙ e))

  -- each that is shown has 2D+1 ticks left
  pub entered_left : distinct same_statement s.statements ≡ true → (z : Shown) → Mem z (display (tick s).next) → z.ticks_left ≡ pos (2 * s.settings.D + 1)
  unfolding counted with_clock with_log entering
  entered_left o z m = let (l, f) = tick_enters in votes_left (arrived (with_log l (counted s))) o z (subst (λ (r : State). Mem z (display r)) f m)
