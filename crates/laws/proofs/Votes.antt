-- L4: a vote is cast only in its view, for a statement stored there and said just before it: a propose, or a new-view whose
-- certificate ranks at or above the lock. S c e: the station said e at clock c. Assumes nothing.
use mathlib.Core.Path.{◌≡◌, refl, sym, ◌∙◌}
use Prim.Native.Nat.{ℕ}
use mathlib.Core.Bool.{Bool, true, false}
use mathlib.Core.List.{List, [], ◌∷◌, ◌++◌}
use Rattle.rules.specs.Messages.{Message, new_view, propose, vote, blame, blame_set, status, Effect, to_all, to_one, committed}
use Rattle.rules.specs.Words.{Statement, message, certificate, below, in_view, State}
use Rattle.rules.specs.Inputs.{saying, ◌▸◌, with_phase, with_tables, with_blames, with_log, entering, below_lock, voted_for, ballot, stored, blamed, report, current, in_order, voting_all}
use Rattle.laws.proofs.Tests.{by_bool}
use Rattle.laws.proofs.Truths.{and_rest}
use Rattle.laws.proofs.Searches.{All, all_append, all_split, all_map, to_all_lem}
use Rattle.laws.proofs.Statements.{In, mem_in, in_last, in_noted, mem_order}
use Rattle.laws.proofs.Moves.{Outside, arrived, Move, joins, stores, passes, casts, clashes, accuses, fills, complains, enters_full, enters_pair, enters, Moves, here, more, voting_low, voting_high}
use Rattle.laws.proofs.Kept.{in_true, moves_fixed, voting_all_fixed, voted_kept, voting_all_kept}
use Rattle.laws.proofs.Orderly.{Orderly, move_orderly, moves_orderly}
use Rattle.laws.proofs.Held.{report_all}

module _ (S : ℕ → Effect → Type 0) where
  -- in t, a vote for (v, h, b) is as it should be
  pub record Stands (t : State) (v h b : ℕ) : Type 0 where
    pub phase : t.phase ≡ in_view
    pub current : t.view ≡ v
    pub what : Statement
    pub view : what.view ≡ v
    pub height : what.height ≡ h
    pub name : what.name ≡ b
    pub has : In t.statements what
    pub said : S t.clock (to_all (message what))
    pub lock : what.is_new_view ≡ true → below (certificate what) t.lock ≡ false

  abbrev StandsIn : State → Message → Type 0
  StandsIn t (new_view v h b c m a) = Unit {0}
  StandsIn t (propose v h b p m a) = Unit {0}
  StandsIn t (vote v h b a) = Stands t v h b
  StandsIn t (blame v a) = Unit {0}
  StandsIn t (blame_set v m) = Unit {0}
  StandsIn t (status h b c m) = Unit {0}

  abbrev StandsSaid : State → Effect → Type 0
  StandsSaid t (to_all m) = StandsIn t m
  StandsSaid t (to_one i m) = Unit {0}
  StandsSaid t (committed h b) = Unit {0}

  message_stands : (t : State) (x : Statement) → StandsIn t (message x)
  unfolding message
  message_stands t x = go x.is_new_view refl
    where
      go : (k : Bool) → x.is_new_view ≡ k → StandsIn t (message x)
      go true e = rw (e, message) tt
      go false e = rw (e, message) tt

  not_low : (x : Statement) (s : State) → below_lock x s ≡ false → x.is_new_view ≡ true → below (certificate x) s.lock ≡ false
  unfolding below_lock
  not_low x s l k = and_rest x.is_new_view k l

  voting_all_stands : (ys : List Statement) (s : State) → s.phase ≡ in_view → All (λ x. In s.statements x × (x.view ≡ s.view)) ys
      → All (S s.clock) (voting_all ys s).out → All (StandsSaid (voting_all ys s).now) (voting_all ys s).out
  unfolding voting_all saying ◌▸◌ voted_for with_tables ballot
  voting_all_stands [] s p a h = tt
  voting_all_stands (y ∷ ys) s p a h =
      by_bool (below_lock y s) (λ l. rw (voting_low y s l) (voting_all_stands ys s p a.1 (rw (voting_low y s l) at h)))
      (λ l.
      rw (voting_high y s l)
      (let t = voted_for y s in
      let (q, v) = a.0 in
      let k = voting_all_fixed ys t in
      let o = rw (voting_high y s l) at h in (
        message_stands _ y,
        (
          record {
            phase = k.1 ∙ p;
            current = k.2 ∙ sym v;
            what = y;
            view = refl;
            height = refl;
            name = refl;
            has = (voting_all_kept ys t).has y ((voted_kept y s).has y q);
            said = rw k.0.1 o.0;
            lock = λ e. rw k.3 (not_low y s l e);
          },
          voting_all_stands ys t p (all_map (λ x. In s.statements x × (x.view ≡ s.view)) (λ x. In t.statements x × (x.view ≡ t.view)) (λ x r. ((voted_kept y s).has x r.0, r.1)) ys a.1) o.1.1,
        ),
      )))

  move_stands : {R : Outside} (s t : State) (o : List Effect) → Move R s t o → All (S s.clock) o → All (StandsSaid t) o
  unfolding with_tables with_phase with_blames with_log entering stored voted_for ballot blamed
  move_stands s t o (joins j m u g c) h = tt
  move_stands s t o (stores x g f) h = tt
  move_stands s t o (passes x g f c k) h = tt
  move_stands s t o (casts x g f c k) h =
      let i = in_true x.view s f in (
        message_stands t x,
        (
          record {
            phase = i.0;
            current = sym i.1;
            what = x;
            view = refl;
            height = refl;
            name = refl;
            has = rw in_noted (in_last s.statements x);
            said = h.0;
            lock = not_low x s k;
          },
          tt,
        ),
      )
  move_stands s t o (clashes x y g f c) h = (message_stands t y, (message_stands t x, tt))
  move_stands s t o (accuses v m a f) h = tt
  move_stands s t o (fills v m a f) h = (tt, tt)
  move_stands s t o (complains f) h = (tt, tt)
  move_stands s t o (enters_full e c) h = all_append (StandsSaid t) (report s) _ (report_all (StandsSaid t) s (λ i m. tt)) (tt, tt)
  move_stands s t o (enters_pair p e c f) h =
      all_append (StandsSaid t) (report s) _ (report_all (StandsSaid t) s (λ i m. tt)) (message_stands t p.0, (message_stands t p.1, tt))
  move_stands s t o (enters e c f) h =
      let a = arrived s in
      let ys = in_order (current a) in
      all_append (StandsSaid t) (report s) _ (report_all (StandsSaid t) s (λ i m. tt))
      (voting_all_stands ys a refl (to_all_lem (λ x. In a.statements x × (x.view ≡ a.view)) ys (λ x m. let r = mem_order a x m in (mem_in a.statements x r.0, r.1)))
      (all_split (S s.clock) (report s) _ h).1)

  -- ---- a vote within a chain of moves from s to t: the state in which it stands, and the chain before and after

  pub record Cast (R : Outside) (s t : State) (v h b : ℕ) : Type 0 where
    pub at : State
    pub said : List Effect
    pub later : List Effect
    pub before : Moves R s at said
    pub after : Moves R at t later
    pub orderly : Orderly S at
    pub stands : Stands at v h b

  abbrev CastIn : Outside → State → State → Message → Type 0
  CastIn R s t (new_view v h b c m a) = Unit {0}
  CastIn R s t (propose v h b p m a) = Unit {0}
  CastIn R s t (vote v h b a) = Cast R s t v h b
  CastIn R s t (blame v a) = Unit {0}
  CastIn R s t (blame_set v m) = Unit {0}
  CastIn R s t (status h b c m) = Unit {0}

  abbrev pub CastSaid : Outside → State → State → Effect → Type 0
  CastSaid R s t (to_all m) = CastIn R s t m
  CastSaid R s t (to_one i m) = Unit {0}
  CastSaid R s t (committed h b) = Unit {0}

  cast_on : (R : Outside) (s : State) {t u : State} {o : List Effect} → Move R t u o → (e : Effect) → CastSaid R s t e → CastSaid R s u e
  cast_on R s k (to_all (new_view v h b c m a)) x = tt
  cast_on R s k (to_all (propose v h b p m a)) x = tt
  cast_on R s {o = o} k (to_all (vote v h b a)) x =
      record { at = x.at; said = x.said; later = x.later ++ o; before = x.before; after = more x.after k; orderly = x.orderly; stands = x.stands }
  cast_on R s k (to_all (blame v a)) x = tt
  cast_on R s k (to_all (blame_set v m)) x = tt
  cast_on R s k (to_all (status h b c m)) x = tt
  cast_on R s k (to_one i m) x = tt
  cast_on R s k (committed h b) x = tt

  stands_cast : {R : Outside} (s t : State) (o : List Effect) → Moves R s t o → Orderly S t → (e : Effect) → StandsSaid t e → CastSaid R s t e
  stands_cast s t o w i (to_all (new_view v h b c m a)) x = tt
  stands_cast s t o w i (to_all (propose v h b p m a)) x = tt
  stands_cast s t o w i (to_all (vote v h b a)) x = record { at = t; said = o; later = []; before = w; after = here; orderly = i; stands = x }
  stands_cast s t o w i (to_all (blame v a)) x = tt
  stands_cast s t o w i (to_all (blame_set v m)) x = tt
  stands_cast s t o w i (to_all (status h b c m)) x = tt
  stands_cast s t o w i (to_one j m) x = tt
  stands_cast s t o w i (committed h b) x = tt

  pub moves_cast : {R : Outside} (s t : State) (o : List Effect) → Moves R s t o → All (S s.clock) o → Orderly S s → All (CastSaid R s t) o
  moves_cast {R} s t o here h i = tt
  moves_cast {R} s t o (more {t = u} {o = p} {p = q} a b) h i =
      let r = all_split (S s.clock) p q h in
      let iu = moves_orderly S s u p a r.0 i in
      let hq : All (S u.clock) q = rw (moves_fixed a).1 r.1 in
      let it = move_orderly S u t q b hq iu in
      all_append (CastSaid R s t) p q (all_map (CastSaid R s u) (CastSaid R s t) (cast_on R s b) p (moves_cast s u p a r.0 i))
      (all_map (StandsSaid t) (CastSaid R s t) (stands_cast s t (p ++ q) (more a b) it) q (move_stands u t q b hq))
