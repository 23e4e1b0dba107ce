-- L2, L3, L5: in a view no two stored statements of it conflict and its blames are no quorum, every stored statement of it is voted
-- for, from the entry on, but a new-view below the lock; who quits tells all why; how the station came into its view. S c e: the station said e at clock c. Assumes nothing.
use mathlib.Core.Path.{◌≡◌, subst, refl, sym, ap, ◌∙◌}
use Prim.Native.Nat.{ℕ, suc, ◌+◌, ◌≤◌, ◌<◌}
use native.Mathlib.Omega.{arith}
use native.Mathlib.Decide.{dec_lt}
use mathlib.Core.Bool.{Bool, true, false, ◌&&◌}
use mathlib.Core.List.{List, [], ◌∷◌, ◌++◌}
use mathlib.Core.Logic.{◌⊎◌, inl, inr}
use mathlib.Core.Option.{Option, none, some, map, map-eq-some_iff}
use lib.ListN.{get_or-replicate}
use lib.Dec.{eqb}
use borrow.Author.Tests.{eqb-true}
use Rattle.rules.specs.Limits.{first_view, last_view}
use Rattle.rules.specs.Lists.{first, any, keep, alter}
use Rattle.rules.specs.Sizes.{Settings, joined, quorum}
use Rattle.rules.specs.Messages.{vote, blame_set, Effect, to_all}
use Rattle.rules.specs.Words.{Statement, message, same_statement, conflict, Certificate, Tally, certificate, below, in_view, waiting, State, fresh}
use Rattle.rules.specs.Inputs.{Work, saying, ◌▸◌, with_phase, with_clock, with_tables, with_blames, with_log, entering, is_in, below_lock, noted, voted_for, ballot, voting, stored, blames_of, blamed, blame_full, enters_now, report, current, pair, in_order, voting_all}
use Rattle.laws.proofs.Bounds.{views_some}
use Rattle.laws.proofs.Tests.{by_bool, no_some, no_bool}
use Rattle.laws.proofs.Truths.{and_2, and_rest}
use Rattle.laws.proofs.Searches.{first_any, first_append, All, all_split, mem_keep}
use Rattle.laws.proofs.Statements.{same_like, same_self, same_sym, same_cong, conflict_sym, conflict_view, In, in_keep, in_order_lem, in_noted, first_noted, first_other, Clean, clean_append, clean_view, pair_some}
use Rattle.laws.proofs.Tallies.{no_quorum}
use Rattle.laws.proofs.Moves.{Outside, arrived, fills_now, Move, joins, stores, passes, casts, clashes, accuses, fills, complains, enters_full, enters_pair, enters, Moves, here, more, voting_low, voting_high}
use Rattle.laws.proofs.Kept.{no_phase, waiting_clock, in_true, true_in, enters_at, blamed_cases, moves_fixed}

pair_view : (v : ℕ) (xs : List Statement) (p : Statement × Statement) → pair (keep (λ y. eqb y.view v) xs) ≡ some p → p.0.view ≡ v
pair_view v xs p f = eqb-true p.0.view v (mem_keep (λ (y : Statement). eqb y.view v) xs p.0 (pair_some _ p f).1).1

-- ---- what is below the lock

-- a new-view whose certificate ranks below t
abbrev low : Certificate → Statement → Bool
low t x = x.is_new_view && below (certificate x) t

-- the same statement is below it too
low_same : (t : Certificate) (x y : Statement) → same_statement x y ≡ true → low t y ≡ low t x
unfolding below certificate
low_same t x y e = ap (low t) (same_like x y e) ∙ by_bool x.is_new_view (λ q. rw q refl) (λ q. rw q refl)

-- a propose is never below the lock
pub propose_high : (x : Statement) (s : State) → x.is_new_view ≡ false → below_lock x s ≡ false
unfolding below_lock
propose_high x s k = rw k refl

-- ---- what a search finds after votes: what it found, or that with the clock noted

noted_twice : (c : ℕ) (o : Option Statement) → map (noted c) (map (noted c) o) ≡ map (noted c) o
unfolding noted
noted_twice c none = refl
noted_twice c (some x) = refl

abbrev Or : ℕ → Option Statement → Option Statement → Type 0
Or c f h = (h ≡ f) ⊎ (h ≡ map (noted c) f)

or_then : (c : ℕ) (f g h : Option Statement) → Or c f g → Or c g h → Or c f h
or_then c f g h (inl p) (inl q) = inl (q ∙ p)
or_then c f g h (inl p) (inr q) = inr (q ∙ ap (map (noted c)) p)
or_then c f g h (inr p) (inl q) = inr (q ∙ p)
or_then c f g h (inr p) (inr q) = inr (q ∙ ap (map (noted c)) p ∙ noted_twice c f)

or_noted : (c : ℕ) (f g h : Option Statement) → g ≡ map (noted c) f → Or c g h → h ≡ map (noted c) f
or_noted c f g h p (inl q) = q ∙ p
or_noted c f g h p (inr q) = q ∙ ap (map (noted c)) p ∙ noted_twice c f

noted_or : (c : ℕ) (f g h : Option Statement) → Or c f g → h ≡ map (noted c) g → h ≡ map (noted c) f
noted_or c f g h (inl p) q = q ∙ ap (map (noted c)) p
noted_or c f g h (inr p) q = q ∙ ap (map (noted c)) p ∙ noted_twice c f

module _ (S : ℕ → Effect → Type 0) where
  -- a statement the same as x was said, and the vote for it
  abbrev pub Voted : ℕ → ℕ → Statement → Type 0
  Voted c me x = (y : Statement) × (same_statement x y ≡ true) × S c (to_all (message y)) × S c (to_all (vote x.view x.height x.name me))

  voted_cong : (c me : ℕ) (x z : Statement) → same_statement x z ≡ true → Voted c me x → Voted c me z
  voted_cong c me x z e (y, s, m, v) = let l = same_like x z e in (y, sym (same_cong x z y e) ∙ s, m, rw l v)

  -- the table after votes at clock c, under the lock t, for ys in xs
  record After (me c : ℕ) (t : Certificate) (ys xs after : List Statement) : Type 0 where
    pub has : (x : Statement) → any (same_statement x) after ≡ any (same_statement x) xs
    pub found : (x : Statement) → Or c (first (same_statement x) xs) (first (same_statement x) after)
    pub voted : (x : Statement) → low t x ≡ false → In ys x
        → (first (same_statement x) after ≡ map (noted c) (first (same_statement x) xs)) × Voted c me x

  voting_after : (y : Statement) (s : State) → All (S s.clock) (voting y s).out
      → (xs : List Statement) × (ts : List Tally) × ((voting y s).now ≡ with_tables xs ts s) × After s.settings.own s.clock s.lock (y ∷ []) s.statements xs
  unfolding any with_tables saying below_lock voted_for ballot
  voting_after y s h =
      by_bool (below_lock y s)
      (λ l. (
        s.statements,
        s.tallies,
        ap (λ (w : Work). w.now) (voting_low y s l),
        record {
          has = λ x. refl;
          found = λ x. inl refl;
          voted = λ x k a.
              by_bool (same_statement x y)
              (λ q. no_bool (sym l ∙ low_same s.lock x y q ∙ k))
              (λ q. no_bool (sym (rw (q, any) at a)));
        },
      ))
      (λ l. (
        alter (same_statement y) (noted s.clock) s.statements,
        _,
        ap (λ (w : Work). w.now) (voting_high y s l),
        record {
          has = λ x. in_noted x y s.clock s.statements;
          found = λ x.
              by_bool (same_statement x y) (λ q. inr (first_noted x y s.clock q s.statements))
              (λ q. inl (first_other x y s.clock q s.statements));
          voted = λ x k a.
              by_bool (same_statement x y)
              (λ q.
              let o = rw (voting_high y s l) at h in (
                first_noted x y s.clock q s.statements,
                voted_cong s.clock s.settings.own y x (same_sym y x ∙ q) (y, same_self y, o.0, o.1.0),
              ))
              (λ q. no_bool (sym (rw (q, any) at a)));
        },
      ))

  voting_all_after : (ys : List Statement) (s : State) → All (S s.clock) (voting_all ys s).out
      → (xs : List Statement) × (ts : List Tally) × ((voting_all ys s).now ≡ with_tables xs ts s) × After s.settings.own s.clock s.lock ys s.statements xs
  unfolding voting_all with_tables saying any ◌▸◌
  voting_all_after [] s h = (s.statements, s.tallies, refl, record { has = λ x. refl; found = λ x. inl refl; voted = λ x k a. no_bool (sym a) })
  voting_all_after (y ∷ ys) s h =
      let c = s.clock in
      let sp = all_split (S c) (voting y s).out (voting_all ys (voting y s).now).out h in
      let (X1, T1, e1, a1) = voting_after y s sp.0 in
      let t = with_tables X1 T1 s in
      let (X, T, e, a) = voting_all_after ys t (rw e1 at sp.1) in (
        X,
        T,
        ap (λ (u : State). (voting_all ys u).now) e1 ∙ e,
        record {
          has = λ x. a.has x ∙ a1.has x;
          found = λ x. or_then c _ _ _ (a1.found x) (a.found x);
          voted = λ x k w.
              by_bool (same_statement x y)
              (λ q. let f = a1.voted x k (rw (q, any) refl) in (or_noted c (first (same_statement x) s.statements) _ _ f.0 (a.found x), f.1))
              (λ q. let f = a.voted x k (rw (q, any) at w) in (noted_or c _ _ _ (a1.found x) f.0, f.1));
        },
      )

  -- ---- what holds after every move

  -- at clock q the station told all why view v is over
  pub data Told (g : Settings) (q v : ℕ) : Type 0 where
    full : (m : ℕ) → quorum g m ≡ true → S q (to_all (blame_set v m)) → Told g q v
    two : (x y : Statement) → conflict x y ≡ true → x.view ≡ v → S q (to_all (message x)) → S q (to_all (message y)) → Told g q v

  -- how it came into view v at clock e: it quit the view before, told all, and waited D ticks
  pub data Past (g : Settings) : ℕ → ℕ → Type 0 where
    start : Past g first_view 0
    onward : {v e q : ℕ} → Past g v e → e ≤ q → v < last_view g.size → Told g q v → Past g (v + 1) (q + g.D + 1)

  -- the vote for the stored z, which is the same as x, at a clock from the entry to now
  abbrev pub VotedIn : State → Statement → Statement → Type 0
  VotedIn s x z = (c : ℕ) × (z.voted ≡ some c) × (s.entry ≤ c) × (c ≤ s.clock) × Voted c s.settings.own x

  pub record Orderly (s : State) : Type 0 where
    pub clean : s.phase ≡ in_view → Clean s.view s.statements
    pub calm : s.phase ≡ in_view → blame_full s.view s ≡ false
    pub votes : s.phase ≡ in_view → (x z : Statement) → first (same_statement x) s.statements ≡ some z → below_lock x s ≡ false → x.view ≡ s.view
        → VotedIn s x z
    pub quits : (q : ℕ) → s.phase ≡ waiting q → (s.entry ≤ q) × (q ≤ s.clock) × Told s.settings q s.view
    pub past : Past s.settings s.view s.entry
    pub order : s.entry ≤ s.clock

  pub fresh_orderly : (g : Settings) → Orderly (fresh g)
  unfolding fresh any first blame_full blames_of
  fresh_orderly g =
      record { clean = λ p x y a b v. no_bool (sym a); calm = λ p. rw (get_or-replicate {A = ℕ} (suc (last_view g.size)) 1 0 0 (omega (arith, views_some g.size))) (no_quorum g); votes = λ p x z f k v. no_some f; quits = λ q e. no_phase (sym e); past = start; order = omega arith }

  pub clock_orderly : (s : State) → Orderly s → Orderly (with_clock (s.clock + 1) s)
  unfolding with_clock blame_full blames_of below_lock
  clock_orderly s i =
      record {
        clean = i.clean;
        calm = i.calm;
        votes = λ p x z f k v. let (c, e, l, r, w) = i.votes p x z f k v in (c, e, l, omega arith, w);
        quits = λ q e. let (a, b, t) = i.quits q e in (a, omega arith, t);
        past = i.past;
        order = let o = i.order in omega arith;
      }

  -- quitting, with what is told
  quitting : (s : State) → Past s.settings s.view s.entry → s.entry ≤ s.clock → Told s.settings s.clock s.view
      → Orderly (with_phase (waiting s.clock) s)
  unfolding with_phase
  quitting s p o t =
      record {
        clean = λ e. no_phase e;
        calm = λ e. no_phase e;
        votes = λ e. no_phase e;
        quits = λ q e. let r : s.clock ≡ q = waiting_clock e in rw (← r) (o, omega arith, t);
        past = p;
        order = o;
      }

  -- a new statement of another view, or a new-view that is not voted for
  votes_append : (s : State) (w : Statement) → Orderly s → s.phase ≡ in_view → (w.view ≡ s.view → below_lock w s ≡ true) → (x z : Statement)
      → first (same_statement x) (s.statements ++ w ∷ []) ≡ some z → below_lock x s ≡ false → x.view ≡ s.view → VotedIn s x z
  unfolding below_lock
  votes_append s w i p n x z f k v = go (first_append (same_statement x) s.statements w z f)
    where
      go : (first (same_statement x) s.statements ≡ some z) ⊎ ((first (same_statement x) s.statements ≡ none) × (same_statement x w ≡ true) × (z ≡ w)) → VotedIn s x z
      go (inl e) = i.votes p x z e k v
      go (inr e) =
          let l = same_like x w e.1 in
          no_bool (sym (n (ap (λ (y : Statement). y.view) l ∙ v)) ∙ low_same s.lock x w e.1 ∙ k)

  votes_cast : (s : State) (w : Statement) → Orderly s → s.phase ≡ in_view → All (S s.clock) (ballot w s) → (x z : Statement)
      → first (same_statement x) (alter (same_statement w) (noted s.clock) (s.statements ++ w ∷ [])) ≡ some z → below_lock x s ≡ false → x.view ≡ s.view
      → VotedIn s x z
  unfolding noted ballot
  votes_cast s w i p h x z f k v =
      by_bool (same_statement x w)
      (λ q.
      let g = (map-eq-some_iff _ (first (same_statement x) (s.statements ++ w ∷ []))).0 (sym (first_noted x w s.clock q (s.statements ++ w ∷ [])) ∙ f) in (
        s.clock,
        ap (λ (y : Statement). y.voted) (sym g.2),
        i.order,
        omega arith,
        voted_cong s.clock s.settings.own w x (same_sym w x ∙ q) (w, same_self w, h.0, h.1.0),
      ))
      (λ q. go q (first_append (same_statement x) s.statements w z (sym (first_other x w s.clock q (s.statements ++ w ∷ [])) ∙ f)))
    where
      go : same_statement x w ≡ false → (first (same_statement x) s.statements ≡ some z) ⊎ ((first (same_statement x) s.statements ≡ none) × (same_statement x w ≡ true) × (z ≡ w))
          → VotedIn s x z
      go q (inl e) = i.votes p x z e k v
      go q (inr e) = no_bool (sym e.1 ∙ q)

  blamed_settings : (v m : ℕ) (s : State) → (blamed v m s).settings ≡ s.settings
  unfolding blamed with_blames
  blamed_settings v m s = refl

  blamed_in : (v m : ℕ) (s : State) → s.phase ≡ in_view → v ≡ s.view → is_in v (blamed v m s) ≡ true
  unfolding blamed with_blames
  blamed_in v m s p e = true_in v (blamed v m s) p e

  calm_blamed : (s : State) (v m : ℕ) → Orderly s → s.phase ≡ in_view → fills_now v m s ≡ false → blame_full s.view (blamed v m s) ≡ false
  unfolding blame_full
  calm_blamed s v m i p f = go (blamed_cases v m s.view s)
    where
      go : (blames_of s.view (blamed v m s) ≡ blames_of s.view s) ⊎ ((v ≡ s.view) × (blames_of s.view (blamed v m s) ≡ joined (blames_of v s) m))
          → blame_full s.view (blamed v m s) ≡ false
      go (inl e) = rw (e, blamed_settings v m s) (i.calm p)
      go (inr e) = subst (λ (w : ℕ). blame_full w (blamed v m s) ≡ false) e.0 (and_rest (is_in v (blamed v m s)) (blamed_in v m s p e.0) f)

  -- L5: a quit, told, and the wait of D ticks lead into the next view
  past_on : (s : State) → Orderly s → enters_now s ≡ true → Past s.settings (s.view + 1) s.clock
  past_on s i e =
      let (q, p, l, c) = enters_at s e in
      let (a, b, t) = i.quits q p in
      rw c (onward i.past a l t)

  entering_orderly : (s : State) → Orderly s → enters_now s ≡ true → blame_full (s.view + 1) s ≡ false → pair (current (arrived s)) ≡ none
      → All (S s.clock) (voting_all (in_order (current (arrived s))) (arrived s)).out → Orderly (voting_all (in_order (current (arrived s))) (arrived s)).now
  unfolding with_tables saying entering current noted blame_full blames_of below_lock
  entering_orderly s i e c f h =
      let (X, T, q, a) = voting_all_after (in_order (current (arrived s))) (arrived s) h in
      let n = s.view + 1 in
      subst Orderly (sym q)
      (record {
        clean = λ p x y k l v. clean_view n s.statements f x y (sym (a.has x) ∙ k) (sym (a.has y) ∙ l) v;
        calm = λ p. c;
        votes = λ p x z k d v.
            let m = sym (a.has x) ∙ (first_any (same_statement x) X z k).0 in
            let w = a.voted x d (in_order_lem (same_statement x) (current (arrived s)) ∙ in_keep n x s.statements v m) in
            let g = (map-eq-some_iff _ (first (same_statement x) s.statements)).0 (sym w.0 ∙ k) in
            (s.clock, ap (λ (y : Statement). y.voted) (sym g.2), omega arith, omega arith, w.1);
        quits = λ r p. no_phase (sym p);
        past = past_on s i e;
        order = omega arith;
      })

  pub move_orderly : {R : Outside} (s t : State) (o : List Effect) → Move R s t o → All (S s.clock) o → Orderly s → Orderly t
  unfolding with_tables with_phase with_blames with_log entering stored voted_for blamed blame_full blames_of below_lock current
  move_orderly s t o (joins j m u g c) h i = record { clean = i.clean; calm = i.calm; votes = i.votes; quits = i.quits; past = i.past; order = i.order }
  move_orderly s t o (stores x g f) h i =
      record {
        clean = λ p. clean_append s.view s.statements x (i.clean p) (λ v. no_bool (sym (true_in x.view s p v) ∙ f));
        calm = i.calm;
        votes = λ p. votes_append s x i p (λ v. no_bool (sym (true_in x.view s p v) ∙ f));
        quits = i.quits;
        past = i.past;
        order = i.order;
      }
  move_orderly s t o (passes x g f c l) h i =
      record {
        clean = λ p. clean_append s.view s.statements x (i.clean p) (λ v. c);
        calm = i.calm;
        votes = λ p. votes_append s x i p (λ v. l);
        quits = i.quits;
        past = i.past;
        order = i.order;
      }
  move_orderly s t o (casts x g f c l) h i =
      record {
        clean = λ p y z a b. clean_append s.view s.statements x (i.clean p) (λ v. c) y z (rw in_noted at a) (rw in_noted at b);
        calm = i.calm;
        votes = λ p. votes_cast s x i p h;
        quits = i.quits;
        past = i.past;
        order = i.order;
      }
  move_orderly s t o (clashes x y g f c) h i =
      quitting (stored x s) i.past i.order
      (two y x (conflict_sym y x ∙ (first_any (conflict x) s.statements y c).1)
      (sym (conflict_view x y (first_any (conflict x) s.statements y c).1) ∙ (in_true x.view s f).1) h.0 h.1.0)
  move_orderly s t o (accuses v m a f) h i =
      record { clean = i.clean; calm = λ p. calm_blamed s v m i p f; votes = i.votes; quits = i.quits; past = i.past; order = i.order }
  move_orderly s t o (fills v m a f) h i =
      let b = and_2 (is_in v (blamed v m s)) (blame_full v (blamed v m s)) f in
      quitting (blamed v m s) i.past i.order
      (full (blames_of v (blamed v m s)) b.1
      (subst (λ (w : ℕ). S s.clock (to_all (blame_set w (blames_of v (blamed v m s))))) (in_true v (blamed v m s) b.0).1 h.0))
  move_orderly s t o (complains f) h i = i
  move_orderly s t o (enters_full e c) h i =
      quitting (arrived s) (past_on s i e) (omega arith) (full _ c (all_split (S s.clock) (report s) _ h).1.0)
  move_orderly s t o (enters_pair p e c f) h i =
      let k = pair_some _ p f in
      let r = (all_split (S s.clock) (report s) _ h).1 in
      quitting (arrived s) (past_on s i e) (omega arith) (two p.0 p.1 k.0 (pair_view (s.view + 1) s.statements p f) r.0 r.1.0)
  move_orderly s t o (enters e c f) h i = entering_orderly s i e c f (all_split (S s.clock) (report s) _ h).1

  pub moves_orderly : {R : Outside} (s t : State) (o : List Effect) → Moves R s t o → All (S s.clock) o → Orderly s → Orderly t
  moves_orderly s t o here h i = i
  moves_orderly s t o (more {t = u} {o = p} {p = q} a b) h i =
      let r = all_split (S s.clock) p q h in
      move_orderly u t q b (rw (moves_fixed a).1 r.1) (moves_orderly s u p a r.0 i)

  -- ---- the way through the views

  pub past_range : {g : Settings} {v e : ℕ} → Past g v e → (first_view ≤ v) × (v ≤ last_view g.size)
  past_range {g} start = (omega arith, views_some g.size)
  past_range (onward p l k t) = (omega arith, omega arith)

  -- who is past view v quit it D+1 ticks or more before its last entry
  pub past_told : {g : Settings} {u e : ℕ} → Past g u e → (v : ℕ) → first_view ≤ v → v < u → (q : ℕ) × (q + g.D + 1 ≤ e) × Told g q v
  past_told start v a b = absurd (omega arith)
  past_told {g} (onward {v = u} {q = q} p l w t) v a b =
      elim (dec_lt v u) [
        | yes y ↦ (let (q1, c, d) = past_told p v a y in (q1, omega arith, d))
        | no y ↦ (let e : u ≡ v = omega arith in (q, omega arith, subst (λ (z : ℕ). Told g q z) e t))
      ]
