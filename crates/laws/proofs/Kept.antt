-- L1: nothing is lost by a move. Statements stay, with the clocks of their votes while in the view, tallies and blame masks only gain
-- bits, the view doesn't fall; who waits goes on waiting until it enters, and a tick leaves nobody due to enter. Assumes nothing.
use mathlib.Core.Path.{◌≡◌, subst, refl, sym, ap, ◌∙◌}
use Prim.Native.Nat.{ℕ, zero, suc, ◌+◌, ◌≤◌, ◌<◌}
use native.Mathlib.Omega.{arith}
use mathlib.Core.Bool.{true, false}
use mathlib.Core.List.{List, [], ◌∷◌, ◌++◌}
use mathlib.Core.Logic.{◌⊎◌, inl, inr}
use mathlib.Core.Option.{none, some}
use lib.Dec.{eqb, ltb}
use lib.Bits.{or_comm}
use lib.ListN.{length, get_or, set, length-set}
use lib.Seq.{get_or-set_same}
use borrow.Author.Tests.{eqb-true, eq-eqb, lt-ltb, ltb-true}
use Rattle.rules.specs.Limits.{last_view, last_clock}
use Rattle.rules.specs.Lists.{first}
use Rattle.rules.specs.Sizes.{Settings, only, bit, joined, quorum}
use Rattle.rules.specs.Messages.{Effect}
use Rattle.rules.specs.Words.{Statement, same_statement, Certificate, own_block, certificate, join, join_certificate, voters, Phase, in_view, waiting, stopped, State, moment}
use Rattle.rules.specs.Inputs.{Work, saying, ◌▸◌, with_phase, with_clock, with_tables, with_blames, with_log, entering, is_in, quit, below_lock, voted_for, stored, blames_of, blamed, blame_full, due, commits, logging, complain, lead, enters_now, entered, current, pair, in_order, voting_all, arrive, enter, ticked}
use Rattle.rules.specs.Refusals.{has_room, if_room, running, tick}
use Rattle.laws.proofs.Tests.{by_bool, by_option, no_bool}
use Rattle.laws.proofs.Truths.{and_2, both}
use Rattle.laws.proofs.Searches.{first_kept, first_any}
use Rattle.laws.proofs.Masks.{quorum_joined}
use Rattle.laws.proofs.Statements.{in_cong, in_append, in_noted, first_other, In}
use Rattle.laws.proofs.Tallies.{count_quorum, voters_join, voters_certificate}
use Rattle.laws.proofs.Moves.{Outside, arrived, Move, joins, stores, passes, casts, clashes, accuses, fills, complains, enters_full, enters_pair, enters, Moves, here, more, voting_low, voting_high, arrive_full, arrive_pair, arrive_clean}

-- ---- phases

pub no_phase {ℓ} : {P : Type ℓ} {q : ℕ} → waiting q ≡ in_view → P
no_phase e = let z : ◌≡◌ {A = ℕ} 0 1 = cc in absurd (omega arith)

pub waiting_clock : {a b : ℕ} → waiting a ≡ waiting b → a ≡ b
waiting_clock {a} {b} e = cc

pub by_phase {ℓ} : {P : Type ℓ} (s : State) → running s ≡ true → (s.phase ≡ in_view → P) → ((q : ℕ) → s.phase ≡ waiting q → P) → P
unfolding running
by_phase {P = P} s r f g = go s.phase refl
  where
    go : (p : Phase) → s.phase ≡ p → P
    go in_view e = f e
    go (waiting q) e = g q e
    go (stopped c) e = no_bool (sym (rw (e, running) at r))

pub in_true : (v : ℕ) (s : State) → is_in v s ≡ true → (s.phase ≡ in_view) × (v ≡ s.view)
unfolding is_in
in_true v s e = go s.phase refl
  where
    go : (p : Phase) → s.phase ≡ p → (s.phase ≡ in_view) × (v ≡ s.view)
    go in_view q = (q, eqb-true v s.view (rw (q, is_in) at e))
    go (waiting c) q = no_bool (sym (rw (q, is_in) at e))
    go (stopped c) q = no_bool (sym (rw (q, is_in) at e))

pub true_in : (v : ℕ) (s : State) → s.phase ≡ in_view → v ≡ s.view → is_in v s ≡ true
unfolding is_in
true_in v s p e = rw (p, is_in) (eq-eqb v s.view e)

in_waits {ℓ} : {P : Type ℓ} (v : ℕ) (s : State) (q : ℕ) → is_in v s ≡ true → s.phase ≡ waiting q → P
in_waits v s q i p = no_phase (sym p ∙ (in_true v s i).0)

-- "enters the next at exactly quit+D+1"
pub enters_at : (s : State) → enters_now s ≡ true → (q : ℕ) × (s.phase ≡ waiting q) × (s.view < last_view s.settings.size) × (s.clock ≡ q + s.settings.D + 1)
unfolding enters_now
enters_at s e = go s.phase refl
  where
    go : (p : Phase) → s.phase ≡ p → (q : ℕ) × (s.phase ≡ waiting q) × (s.view < last_view s.settings.size) × (s.clock ≡ q + s.settings.D + 1)
    go in_view r = no_bool (sym (rw (r, enters_now) at e))
    go (waiting q) r = let a = and_2 (ltb s.view (last_view s.settings.size)) _ (rw (r, enters_now) at e) in (q, r, ltb-true s.view (last_view s.settings.size) a.0, eqb-true s.clock _ a.1)
    go (stopped c) r = no_bool (sym (rw (r, enters_now) at e))

-- ---- blame masks

set_cases : (l : List ℕ) (i j k : ℕ) → (get_or (set l i k) j 0 ≡ get_or l j 0) ⊎ ((i ≡ j) × (get_or (set l i k) j 0 ≡ k))
set_cases [] i j k = inl refl
set_cases (x ∷ l) zero zero k = inr (refl, refl)
set_cases (x ∷ l) zero (suc j) k = inl refl
set_cases (x ∷ l) (suc i) zero k = inl refl
set_cases (x ∷ l) (suc i) (suc j) k = go (set_cases l i j k)
  where
    go : (get_or (set l i k) j 0 ≡ get_or l j 0) ⊎ ((i ≡ j) × (get_or (set l i k) j 0 ≡ k)) → (get_or (set l i k) j 0 ≡ get_or l j 0) ⊎ ((suc i ≡ suc j) × (get_or (set l i k) j 0 ≡ k))
    go (inl e) = inl e
    go (inr e) = inr (ap suc e.0, e.1)

-- a mask of blames is as it was, or it is that of the view, joined
pub blamed_cases : (v m w : ℕ) (s : State)
    → (blames_of w (blamed v m s) ≡ blames_of w s) ⊎ ((v ≡ w) × (blames_of w (blamed v m s) ≡ joined (blames_of v s) m))
unfolding blamed with_blames blames_of
blamed_cases v m w s = set_cases s.blames v w (joined (get_or s.blames v 0) m)

pub blamed_here : (v m : ℕ) (s : State) → v < length s.blames → blames_of v (blamed v m s) ≡ joined (blames_of v s) m
unfolding blamed with_blames blames_of
blamed_here v m s l = get_or-set_same s.blames v (joined (get_or s.blames v 0) m) 0 l

pub quorum_left : (g : Settings) (a b : ℕ) → quorum g a ≡ true → quorum g (joined a b) ≡ true
quorum_left g a b e = count_quorum g (joined a b) (quorum_joined g a b e)

pub quorum_right : (g : Settings) (a b : ℕ) → quorum g b ≡ true → quorum g (joined a b) ≡ true
unfolding joined
quorum_right g a b e = rw (or_comm a b) (quorum_left g b a e)

-- ---- settings, clock and log stay

abbrev pub Fixed : State → State → Type 0
Fixed s t = (t.settings ≡ s.settings) × (t.clock ≡ s.clock) × (t.log ≡ s.log)

-- voting changes the tables alone
pub voting_all_fixed : (ys : List Statement) (s : State) → let t = (voting_all ys s).now in
    Fixed s t × (t.phase ≡ s.phase) × (t.view ≡ s.view) × (t.lock ≡ s.lock)
unfolding voting_all saying voted_for with_tables ◌▸◌
voting_all_fixed [] s = ((refl, refl, refl), refl, refl, refl)
voting_all_fixed (y ∷ ys) s =
    by_bool (below_lock y s) (λ l. rw (voting_low y s l) (voting_all_fixed ys s)) (λ l. rw (voting_high y s l) (voting_all_fixed ys (voted_for y s)))

module _ {R : Outside} where
  pub move_fixed : {s t : State} {o : List Effect} → Move R s t o → Fixed s t
  unfolding with_tables with_phase with_blames with_log entering stored voted_for blamed
  move_fixed (joins j m u g c) = (refl, refl, refl)
  move_fixed (stores x g f) = (refl, refl, refl)
  move_fixed (passes x g f c l) = (refl, refl, refl)
  move_fixed (casts x g f c l) = (refl, refl, refl)
  move_fixed (clashes x y g f c) = (refl, refl, refl)
  move_fixed (accuses v m a f) = (refl, refl, refl)
  move_fixed (fills v m a f) = (refl, refl, refl)
  move_fixed (complains f) = (refl, refl, refl)
  move_fixed (enters_full e c) = (refl, refl, refl)
  move_fixed (enters_pair p e c f) = (refl, refl, refl)
  move_fixed {s} (enters e c f) = (voting_all_fixed (in_order (current (arrived s))) (arrived s)).0

  pub moves_fixed : {s t : State} {o : List Effect} → Moves R s t o → Fixed s t
  moves_fixed here = (refl, refl, refl)
  moves_fixed (more a b) = let p = moves_fixed a in let q = move_fixed b in (q.0 ∙ p.0, q.1 ∙ p.1, q.2 ∙ p.2)

-- ---- nothing is lost

pub record Kept (s t : State) : Type 0 where
  pub has : (x : Statement) → In s.statements x → In t.statements x
  pub full : (g : Settings) (v : ℕ) → quorum g (blames_of v s) ≡ true → quorum g (blames_of v t) ≡ true
  pub length : length t.blames ≡ length s.blames
  pub bits : (q : Certificate) (i : ℕ) → bit (voters q s.tallies) i ≡ 1 → bit (voters q t.tallies) i ≡ 1
  pub view : s.view ≤ t.view
  pub waits : (q : ℕ) → s.phase ≡ waiting q → t.view ≡ s.view → t.phase ≡ waiting q

pub kept_refl : (s : State) → Kept s s
kept_refl s = record { has = λ x h. h; full = λ g v h. h; length = refl; bits = λ q i h. h; view = omega arith; waits = λ q p e. p }

pub kept_trans : {s t u : State} → Kept s t → Kept t u → Kept s u
kept_trans {s} {t} {u} a b =
    let l = a.view in let m = b.view in
    record {
      has = λ x h. b.has x (a.has x h);
      full = λ g v h. b.full g v (a.full g v h);
      length = b.length ∙ a.length;
      bits = λ q i h. b.bits q i (a.bits q i h);
      view = omega arith;
      waits = λ q p e. let f : t.view ≡ s.view = omega arith in b.waits q (a.waits q p f) (e ∙ sym f);
    }

stored_bits : (x : Statement) (s : State) (q : Certificate) (i : ℕ) → bit (voters q s.tallies) i ≡ 1
    → bit (voters q (join (moment none s) (own_block x 0) (join_certificate (moment none s) (certificate x) s.tallies))) i ≡ 1
stored_bits x s q i h = voters_join (moment none s) q (own_block x 0) _ i (voters_certificate (moment none s) q (certificate x) s.tallies i h)

stored_kept : (x : Statement) (s : State) → Kept s (stored x s)
unfolding stored with_tables blames_of
stored_kept x s =
    record { has = in_append s.statements x; full = λ g v h. h; length = refl; bits = stored_bits x s; view = omega arith; waits = λ q p e. p }

pub voted_kept : (x : Statement) (s : State) → Kept s (voted_for x s)
unfolding voted_for with_tables blames_of
voted_kept x s =
    record { has = λ y h. rw in_noted h; full = λ g v h. h; length = refl; bits = λ q i. voters_join (moment none s) q (own_block x (only s.settings.own)) s.tallies i; view = omega arith; waits = λ q p e. p }

pub voting_all_kept : (ys : List Statement) (s : State) → Kept s (voting_all ys s).now
unfolding voting_all saying ◌▸◌
voting_all_kept [] s = kept_refl s
voting_all_kept (y ∷ ys) s =
    by_bool (below_lock y s) (λ l. rw (voting_low y s l) (voting_all_kept ys s))
    (λ l. rw (voting_high y s l) (kept_trans (voted_kept y s) (voting_all_kept ys (voted_for y s))))

-- entering leaves all but phase, view, entry and lock
arrived_kept : (s : State) → Kept s (arrived s)
unfolding entering blames_of
arrived_kept s = record { has = λ x h. h; full = λ g v h. h; length = refl; bits = λ q i h. h; view = omega arith; waits = λ q p f. absurd (omega arith) }

blamed_kept : (v m : ℕ) (s : State) → Kept s (blamed v m s)
unfolding blamed with_blames
blamed_kept v m s =
    record {
      has = λ x h. h;
      full = λ g w h. go g w h (blamed_cases v m w s);
      length = length-set s.blames v _;
      bits = λ q i h. h;
      view = omega arith;
      waits = λ q p e. p;
    }
  where
    go : (g : Settings) (w : ℕ) → quorum g (blames_of w s) ≡ true → (blames_of w (blamed v m s) ≡ blames_of w s) ⊎ ((v ≡ w) × (blames_of w (blamed v m s) ≡ joined (blames_of v s) m))
        → quorum g (blames_of w (blamed v m s)) ≡ true
    go g w h (inl e) = rw e h
    go g w h (inr e) = rw e.1 (quorum_left g (blames_of v s) m (subst (λ (u : ℕ). quorum g (blames_of u s) ≡ true) (sym e.0) h))

-- a change of phase alone, from who doesn't wait in that view
phase_kept : {s t : State} (p : Phase) → Kept s t → ((q : ℕ) → s.phase ≡ waiting q → t.view ≡ s.view → p ≡ waiting q) → Kept s (with_phase p t)
unfolding with_phase blames_of
phase_kept p k w = record { has = k.has; full = k.full; length = k.length; bits = k.bits; view = k.view; waits = w }

module _ {R : Outside} where
  pub move_kept : (s t : State) (o : List Effect) → Move R s t o → Kept s t
  unfolding with_tables with_log entering is_in blamed with_blames blames_of
  move_kept s t o (joins j m u g c) =
      record { has = λ x h. h; full = λ g v h. h; length = refl; bits = λ q i. voters_certificate (moment j s) q u s.tallies i; view = omega arith; waits = λ q p e. p }
  move_kept s t o (stores x g f) = stored_kept x s
  move_kept s t o (passes x g f c l) = stored_kept x s
  move_kept s t o (casts x g f c l) = kept_trans (stored_kept x s) (voted_kept x (stored x s))
  move_kept s t o (clashes x y g f c) = phase_kept (waiting s.clock) (stored_kept x s) (λ q p e. in_waits x.view s q f p)
  move_kept s t o (accuses v m a f) = blamed_kept v m s
  move_kept s t o (fills v m a f) = phase_kept (waiting s.clock) (blamed_kept v m s) (λ q p e. in_waits v s q (and_2 (is_in v s) _ f).0 p)
  move_kept s t o (complains f) = kept_refl s
  move_kept s t o (enters_full e c) = phase_kept (waiting s.clock) (arrived_kept s) (λ q p e. absurd (omega arith))
  move_kept s t o (enters_pair p e c f) = phase_kept (waiting s.clock) (arrived_kept s) (λ q p e. absurd (omega arith))
  move_kept s t o (enters e c f) = kept_trans (arrived_kept s) (voting_all_kept (in_order (current (arrived s))) (arrived s))

  pub moves_kept : {s t : State} {o : List Effect} → Moves R s t o → Kept s t
  moves_kept {s} here = kept_refl s
  moves_kept {s} {t} (more {t = u} {p = p} a b) = kept_trans (moves_kept a) (move_kept u t p b)

-- ---- the clock of a vote stays noted while the view stays

abbrev pub VoteKept : State → State → Type 0
VoteKept s t =
    (x z : Statement) (c : ℕ) → first (same_statement x) s.statements ≡ some z → z.voted ≡ some c → t.view ≡ s.view
    → (y : Statement) × (first (same_statement x) t.statements ≡ some y) × (y.voted ≡ some c)

module _ {R : Outside} where
  move_vote : (s t : State) (o : List Effect) → Move R s t o → VoteKept s t
  unfolding with_tables with_phase with_blames with_log entering stored voted_for blamed
  move_vote s t o (joins j m u g k) x z c f e v = (z, f, e)
  move_vote s t o (stores w g i) x z c f e v = (z, first_kept (same_statement x) s.statements w z f, e)
  move_vote s t o (passes w g i k l) x z c f e v = (z, first_kept (same_statement x) s.statements w z f, e)
  move_vote s t o (casts w (g, n, q) i k l) x z c f e v =
      by_bool (same_statement x w)
      (λ r. no_bool (sym (sym (in_cong x w r s.statements) ∙ (first_any (same_statement x) s.statements z f).0) ∙ q))
      (λ r. (z, first_other x w s.clock r (s.statements ++ w ∷ []) ∙ first_kept (same_statement x) s.statements w z f, e))
  move_vote s t o (clashes w y g i k) x z c f e v = (z, first_kept (same_statement x) s.statements w z f, e)
  move_vote s t o (accuses u m a i) x z c f e v = (z, f, e)
  move_vote s t o (fills u m a i) x z c f e v = (z, f, e)
  move_vote s t o (complains i) x z c f e v = (z, f, e)
  move_vote s t o (enters_full i k) x z c f e v = (z, f, e)
  move_vote s t o (enters_pair p i k l) x z c f e v = (z, f, e)
  move_vote s t o (enters i k l) x z c f e v =
      let w = (voting_all_fixed (in_order (current (arrived s))) (arrived s)).2 in absurd (omega arith)

  pub moves_vote : (s t : State) (o : List Effect) → Moves R s t o → VoteKept s t
  moves_vote s t o here x z c f e v = (z, f, e)
  moves_vote s t o (more {t = u} {o = p} {p = q} a m) x z c f e v =
      let k = (moves_kept a).view in
      let l = (move_kept u t q m).view in
      let w : u.view ≡ s.view = omega arith in
      let (y, g, d) = moves_vote s u p a x z c f e w in
      move_vote u t q m x y c g d (v ∙ sym w)

  -- ---- who waits has waited, or quits now

  move_late : (s t : State) (o : List Effect) → Move R s t o → (q : ℕ) → t.phase ≡ waiting q → (s.phase ≡ waiting q) ⊎ (q ≡ t.clock)
  unfolding with_tables with_phase with_blames with_log entering stored voted_for blamed
  move_late s t o (joins j m u g c) q e = inl e
  move_late s t o (stores x g f) q e = inl e
  move_late s t o (passes x g f c l) q e = inl e
  move_late s t o (casts x g f c l) q e = inl e
  move_late s t o (clashes x y g f c) q e = inr (sym (waiting_clock e))
  move_late s t o (accuses v m a f) q e = inl e
  move_late s t o (fills v m a f) q e = inr (sym (waiting_clock e))
  move_late s t o (complains f) q e = inl e
  move_late s t o (enters_full k c) q e = inr (sym (waiting_clock e))
  move_late s t o (enters_pair p k c f) q e = inr (sym (waiting_clock e))
  move_late s t o (enters k c f) q e = no_phase (sym e ∙ (voting_all_fixed (in_order (current (arrived s))) (arrived s)).1)

  pub moves_late : (s t : State) (o : List Effect) → Moves R s t o → (q : ℕ) → t.phase ≡ waiting q → (s.phase ≡ waiting q) ⊎ (q ≡ t.clock)
  moves_late s t o here q e = inl e
  moves_late s t o (more {t = u} {o = a} {p = b} m l) q e = go (move_late u t b l q e) (λ k. moves_late s u a m q k)
    where
      up : (s.phase ≡ waiting q) ⊎ (q ≡ u.clock) → (s.phase ≡ waiting q) ⊎ (q ≡ t.clock)
      up (inl j) = inl j
      up (inr j) = inr (j ∙ sym (move_fixed l).1)

      go : (u.phase ≡ waiting q) ⊎ (q ≡ t.clock) → (u.phase ≡ waiting q → (s.phase ≡ waiting q) ⊎ (q ≡ u.clock)) → (s.phase ≡ waiting q) ⊎ (q ≡ t.clock)
      go (inr k) f = inr k
      go (inl k) f = up (f k)

-- ---- a tick leaves nobody due to enter

not_in : (s : State) → s.phase ≡ in_view → enters_now s ≡ false
unfolding enters_now
not_in s p = rw (p, enters_now)

not_yet : (s : State) → s.phase ≡ waiting s.clock → enters_now s ≡ false
not_yet s p =
    by_bool (enters_now s)
    (λ e. let (q, r, l, c) = enters_at s e in let k : q ≡ s.clock = waiting_clock (sym r ∙ p) in absurd (omega arith)) (λ e. e)

arrive_settled : (s : State) → s.phase ≡ in_view → enters_now (arrive s).now ≡ false
unfolding quit saying with_phase
arrive_settled s p =
    by_bool (blame_full s.view s) (λ c. rw (arrive_full s c) (not_yet (with_phase (waiting s.clock) s) refl)) λ c.
    by_option (pair (current s))
    (λ k. rw (arrive_clean s c k) (not_in (voting_all (in_order (current s)) s).now ((voting_all_fixed (in_order (current s)) s).1 ∙ p)))
    (λ a k. rw (arrive_pair s a c k) (not_yet (with_phase (waiting s.clock) s) refl))

enter_settled : (s : State) → enters_now (enter s).now ≡ false
unfolding enter entered entering saying ◌▸◌
enter_settled s =
    by_bool (enters_now s) (λ q. rw (q, enter) (arrive_settled (arrived s) refl)) (λ q. rw (q, enter) q)

room_settled : (s : State) (w : Work) → running (if_room s (w ▸ enter)).next ≡ true → enters_now (if_room s (w ▸ enter)).next ≡ false
unfolding if_room running ◌▸◌
room_settled s w =
    by_bool (has_room (w ▸ enter).now) (λ q. rw (q, if_room) (λ _. enter_settled w.now)) (λ q. rw (q, if_room) (λ e. no_bool (sym e)))

pub tick_settled : (s : State) → running (tick s).next ≡ true → enters_now (tick s).next ≡ false
unfolding tick ticked running
tick_settled s =
    let t = with_clock (s.clock + 1) s in
    by_bool (running s)
    (λ r.
    by_bool (eqb s.clock last_clock) (λ k. rw (r, k, tick) (λ e. no_bool (sym e))) λ k.
    by_option (commits t.statements (due t) t.log) (λ q. rw (r, k, tick, ticked, q) (λ e. no_bool (sym e))) λ l q.
    rw (r, k, tick, ticked, q) (room_settled s (logging l t ▸ complain ▸ lead)))
    (λ r. rw (r, tick) (λ e. no_bool (sym e ∙ r)))

pub settled_waits : (s : State) (q : ℕ) → enters_now s ≡ false → s.phase ≡ waiting q → s.view < last_view s.settings.size → ¬ (s.clock ≡ q + s.settings.D + 1)
unfolding enters_now
settled_waits s q e p l c =
    no_bool (sym (both (lt-ltb s.view (last_view s.settings.size) l) (eq-eqb s.clock (q + s.settings.D + 1) c)) ∙ (rw (p, enters_now) at e))
