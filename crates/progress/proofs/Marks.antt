-- What is certified in the tallies stays so, and the highest certificate ranks at or above it; a lock is genesis or was certified as the
-- view was entered, and was then sent to the leader. S c e: the station said e at clock c. Assumes nothing.
use mathlib.Core.Path.{◌≡◌, subst, refl, sym, ap, ◌∙◌}
use Prim.Native.Nat.{ℕ, ◌+◌, ◌≤◌, ◌<◌}
use native.Mathlib.Omega.{arith}
use mathlib.Core.Bool.{true, false, ◌&&◌}
use mathlib.Core.List.{List, [], ◌∷◌, Memᴰ}
use mathlib.Core.Logic.{◌⊎◌, inl, inr}
use mathlib.Core.Option.{none}
use lib.Dec.{eqb, ltb}
use borrow.Author.Tests.{lt-ltb, eqb-true}
use Rattle.rules.specs.Sizes.{Settings, leader, only, quorum}
use Rattle.rules.specs.Messages.{status, Effect, to_one}
use Rattle.rules.specs.Words.{Statement, Certificate, Tally, Moment, certificate_of, opened, own_block, certificate, same_block, grown, join, join_certificate, certified, higher, highest, genesis, State, moment, fresh}
use Rattle.rules.specs.Inputs.{saying, ◌▸◌, with_phase, with_tables, with_blames, with_log, entering, below_lock, voted_for, stored, tallied, blamed, handled, next_lock, report, current, in_order, voting_all}
use Rattle.laws.proofs.Tests.{by_bool}
use Rattle.laws.proofs.Truths.{and_2}
use Rattle.laws.proofs.Searches.{All, all_split}
use Rattle.laws.proofs.Tallies.{block_eq, Above, at_least_trans, higher_true, higher_false, highest_tally}
use Rattle.laws.proofs.Moves.{Outside, arrived, Move, joins, stores, passes, casts, clashes, accuses, fills, complains, enters_full, enters_pair, enters, Moves, here, more, voting_low, voting_high}
use Rattle.laws.proofs.Kept.{quorum_left, quorum_right, voting_all_fixed, moves_fixed}
use Rattle.progress.proofs.Entries.{voting_all_entry}

-- a tally of the rank of c is a quorum
abbrev pub Marked : Settings → Certificate → List Tally → Type 0
Marked g c ts = (u : Tally) × Memᴰ u ts × (u.view ≡ c.view) × (u.height ≡ c.height) × (quorum g u.mask ≡ true)

marked_tail : (g : Settings) (c : Certificate) (t : Tally) (ts : List Tally) → Marked g c ts → Marked g c (t ∷ ts)
marked_tail g c t ts (u, m, v, h, q) = (u, Memᴰ.tail m, v, h, q)

join_marked : (g : Settings) (c : Certificate) (k : Moment) (t : Certificate) (us : List Tally) → Marked g c us → Marked g c (join k t us)
unfolding join grown
join_marked g c k t [] (w, m, v, h, q) = (w, Memᴰ.tail m, v, h, q)
join_marked g c k t (u ∷ us) (w, Memᴰ.head e, v, h, q) =
    by_bool (same_block t (certificate_of u))
    (λ s. rw (s, join) (
      grown k u t.mask,
      Memᴰ.head refl,
      ap (λ (x : Tally). x.view) (sym e) ∙ v,
      ap (λ (x : Tally). x.height) (sym e) ∙ h,
      quorum_left g u.mask t.mask (subst (λ (x : Tally). quorum g x.mask ≡ true) e q),
    ))
    (λ s. rw (s, join) (w, Memᴰ.head e, v, h, q))
join_marked g c k t (u ∷ us) (w, Memᴰ.tail m, v, h, q) =
    by_bool (same_block t (certificate_of u)) (λ s. rw (s, join) (w, Memᴰ.tail m, v, h, q))
    (λ s. rw (s, join) (marked_tail g c u (join k t us) (join_marked g c k t us (w, m, v, h, q))))

-- what joins with a quorum is certified
joined_marked : (g : Settings) (k : Moment) (t : Certificate) (us : List Tally) → quorum g t.mask ≡ true → Marked g t (join k t us)
unfolding join grown
joined_marked g k t [] q = (opened k t, Memᴰ.head refl, refl, refl, q)
joined_marked g k t (u ∷ us) q =
    by_bool (same_block t (certificate_of u))
    (λ s.
    let (v, h, b) = block_eq t (certificate_of u) s in
    rw (s, join) (grown k u t.mask, Memᴰ.head refl, sym v, sym h, quorum_right g u.mask t.mask q))
    (λ s. rw (s, join) (marked_tail g t u (join k t us) (joined_marked g k t us q)))

certificate_marked : (g : Settings) (c : Certificate) (k : Moment) (t : Certificate) (us : List Tally) → Marked g c us → Marked g c (join_certificate k t us)
unfolding join_certificate
certificate_marked g c k t us m = by_bool (eqb t.view 0) (λ e. rw (e, join_certificate) m) (λ e. rw (e, join_certificate) (join_marked g c k t us m))

-- the highest certificate of an earlier view ranks at or above it
pub marked_above : (g : Settings) (v : ℕ) (c : Certificate) (ts : List Tally) → c.view < v → Marked g c ts → Above (highest g v ts) c
unfolding highest certified
marked_above g v c [] l (u, m, p, h, q) = elim m [ ]
marked_above g v c (t ∷ ts) l (u, Memᴰ.head e, p, h, q) =
    let tv : t.view ≡ c.view = ap (λ (x : Tally). x.view) (sym e) ∙ p in
    let th : t.height ≡ c.height = ap (λ (x : Tally). x.height) (sym e) ∙ h in
    let tq : quorum g t.mask ≡ true = subst (λ (x : Tally). quorum g x.mask ≡ true) e q in
    let tc : Above (certificate_of t) c = inr (tv, omega arith) in
    let b = highest g v ts in
    by_bool (higher (certificate_of t) b) (λ k. rw (lt-ltb t.view v (omega arith), tq, k, highest) tc)
    (λ k. rw (lt-ltb t.view v (omega arith), tq, k, highest) (at_least_trans _ _ _ _ _ _ (higher_false (certificate_of t) b k) tc))
marked_above g v c (t ∷ ts) l (u, Memᴰ.tail m, p, h, q) =
    let ih = marked_above g v c ts l (u, m, p, h, q) in
    let b = highest g v ts in
    by_bool (ltb t.view v && certified g t && higher (certificate_of t) b)
    (λ k. rw (k, highest) (at_least_trans _ _ _ _ _ _ (higher_true (certificate_of t) b (and_2 (ltb t.view v && certified g t) _ k).1) ih))
    (λ k. rw (k, highest) ih)

-- a status that is handled is certified from then on
pub status_marked : (g : Settings) (h b c m : ℕ) (s : State) → 1 ≤ c → quorum g m ≡ true → Marked g (record { view = c; height = h; name = b; mask = m }) (handled (status h b c m) s).now.tallies
unfolding handled tallied saying with_tables join_certificate
status_marked g h b c m s l q =
    let t : Certificate = record { view = c; height = h; name = b; mask = m } in
    by_bool (eqb c 0) (λ e. let z = eqb-true c 0 e in absurd (omega arith)) (λ e. rw (e, join_certificate) (joined_marked g (moment none s) t s.tallies q))

-- ---- along the moves

-- all that is certified stays so
abbrev pub KeepsMarks : State → State → Type 0
KeepsMarks s t = (g : Settings) (c : Certificate) → Marked g c s.tallies → Marked g c t.tallies

stored_marks : (x : Statement) (s : State) → KeepsMarks s (stored x s)
unfolding stored with_tables
stored_marks x s g c m = join_marked g c (moment none s) (own_block x 0) (join_certificate (moment none s) (certificate x) s.tallies) (certificate_marked g c (moment none s) (certificate x) s.tallies m)

voted_marks : (x : Statement) (s : State) → KeepsMarks s (voted_for x s)
unfolding voted_for with_tables
voted_marks x s g c m = join_marked g c (moment none s) (own_block x (only s.settings.own)) s.tallies m

voting_all_marks : (ys : List Statement) (s : State) → KeepsMarks s (voting_all ys s).now
unfolding voting_all saying ◌▸◌
voting_all_marks [] s g c m = m
voting_all_marks (y ∷ ys) s g c m =
    by_bool (below_lock y s) (λ l. rw (voting_low y s l) (voting_all_marks ys s g c m))
    (λ l. rw (voting_high y s l) (voting_all_marks ys (voted_for y s) g c (voted_marks y s g c m)))

module _ {R : Outside} where
  move_marks : (s t : State) (o : List Effect) → Move R s t o → KeepsMarks s t
  unfolding with_tables with_phase with_blames with_log entering blamed
  move_marks s t o (joins n m u g c) h q k = certificate_marked h q (moment n s) u s.tallies k
  move_marks s t o (stores x g f) h q k = stored_marks x s h q k
  move_marks s t o (passes x g f c l) h q k = stored_marks x s h q k
  move_marks s t o (casts x g f c l) h q k = voted_marks x (stored x s) h q (stored_marks x s h q k)
  move_marks s t o (clashes x y g f c) h q k = stored_marks x s h q k
  move_marks s t o (accuses v m a f) h q k = k
  move_marks s t o (fills v m a f) h q k = k
  move_marks s t o (complains f) h q k = k
  move_marks s t o (enters_full e c) h q k = k
  move_marks s t o (enters_pair p e c f) h q k = k
  move_marks s t o (enters e c f) h q k = voting_all_marks (in_order (current (arrived s))) (arrived s) h q k

  pub moves_marks : (s t : State) (o : List Effect) → Moves R s t o → KeepsMarks s t
  moves_marks s t o here g c m = m
  moves_marks s t o (more {t = u} {o = p} {p = q} a b) g c m = move_marks u t q b g c (moves_marks s u p a g c m)

-- ---- the lock

module _ (S : ℕ → Effect → Type 0) where
  -- the lock was sent to the leader of the view as it was entered, unless that is the station itself
  abbrev Sent : State → Type 0
  Sent s =
      eqb (leader s.settings s.view) s.settings.own ≡ false
      → S s.entry (to_one (leader s.settings s.view) (status s.lock.height s.lock.name s.lock.view s.lock.mask))

  -- it is genesis, or of an earlier view, certified and sent
  abbrev pub Based : State → Type 0
  Based s =
      ((s.lock.view ≡ 0) × (s.lock.height ≡ 0))
      ⊎ ((s.lock.view < s.view) × Marked s.settings s.lock s.tallies × (quorum s.settings s.lock.mask ≡ true) × Sent s)

  pub based_on : (s t : State) → t.settings ≡ s.settings → t.view ≡ s.view → t.entry ≡ s.entry → t.lock ≡ s.lock → KeepsMarks s t → Based s → Based t
  based_on s t eg ev ee el f (inl a) = rw el (inl a)
  based_on s t eg ev ee el f (inr (l, m, q, h)) = rw (eg, ev, ee, el) (inr (l, f s.settings s.lock m, q, h))

  -- as a view is entered
  arrived_based : (s : State) → All (S s.clock) (report s) → Based (arrived s)
  unfolding entering next_lock report
  arrived_based s h = go (highest_tally s.settings (s.view + 1) s.tallies)
    where
      t : Certificate
      t = highest s.settings (s.view + 1) s.tallies

      go : (t ≡ genesis) ⊎ ((u : Tally) × (certificate_of u ≡ t) × Memᴰ u s.tallies × (t.view < s.view + 1) × (quorum s.settings t.mask ≡ true)) → Based (arrived s)
      go (inl e) = inl (ap (λ (c : Certificate). c.view) e, ap (λ (c : Certificate). c.height) e)
      go (inr (u, e, m, l, q)) =
          inr (l, (u, m, ap (λ (c : Certificate). c.view) e, ap (λ (c : Certificate). c.height) e, subst (λ (c : Certificate). quorum s.settings c.mask ≡ true) (sym e) q), q, λ f. (rw (f, All) at h).0)

  move_based : {R : Outside} (s t : State) (o : List Effect) → Move R s t o → All (S s.clock) o → Based s → Based t
  unfolding with_tables with_phase with_blames with_log entering stored voted_for blamed
  move_based s t o (joins n m u g c) h i = based_on s t refl refl refl refl (move_marks s t o (joins n m u g c)) i
  move_based s t o (stores x g f) h i = based_on s t refl refl refl refl (move_marks s t o (stores x g f)) i
  move_based s t o (passes x g f c l) h i = based_on s t refl refl refl refl (move_marks s t o (passes x g f c l)) i
  move_based s t o (casts x g f c l) h i = based_on s t refl refl refl refl (move_marks s t o (casts x g f c l)) i
  move_based s t o (clashes x y g f c) h i = based_on s t refl refl refl refl (move_marks s t o (clashes x y g f c)) i
  move_based s t o (accuses v m a f) h i = based_on s t refl refl refl refl (λ g c k. k) i
  move_based s t o (fills v m a f) h i = based_on s t refl refl refl refl (λ g c k. k) i
  move_based s t o (complains f) h i = i
  move_based s t o (enters_full e c) h i = based_on (arrived s) t refl refl refl refl (λ g c k. k) (arrived_based s (all_split (S s.clock) (report s) _ h).0)
  move_based s t o (enters_pair p e c f) h i = based_on (arrived s) t refl refl refl refl (λ g c k. k) (arrived_based s (all_split (S s.clock) (report s) _ h).0)
  move_based s t o (enters e c f) h i =
      let ys = in_order (current (arrived s)) in
      let k = voting_all_fixed ys (arrived s) in
      based_on (arrived s) t k.0.0 k.2 (voting_all_entry ys (arrived s)) k.3 (voting_all_marks ys (arrived s)) (arrived_based s (all_split (S s.clock) (report s) _ h).0)

  pub moves_based : {R : Outside} (s t : State) (o : List Effect) → Moves R s t o → All (S s.clock) o → Based s → Based t
  moves_based s t o here h i = i
  moves_based s t o (more {t = u} {o = p} {p = q} a b) h i =
      let r = all_split (S s.clock) p q h in
      move_based u t q b (rw (moves_fixed a).1 r.1) (moves_based s u p a r.0 i)

  pub fresh_based : (g : Settings) → Based (fresh g)
  unfolding fresh
  fresh_based g = inl (refl, refl)
