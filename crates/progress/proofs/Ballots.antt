-- Who votes says the statement at the same event. Assumes nothing.
use mathlib.Core.Path.{◌≡◌, subst, refl, sym}
use Prim.Native.Nat.{ℕ}
use mathlib.Core.Bool.{Bool, true, false}
use mathlib.Core.List.Memᴰ
use mathlib.Core.List.{List, [], ◌∷◌, ◌++◌, Memᴰ}
use mathlib.Core.Logic.{◌⊎◌, inl, inr}
use Rattle.rules.specs.Messages.{Message, new_view, propose, vote, blame, blame_set, status, Effect, to_all, to_one, committed}
use Rattle.rules.specs.Words.{Statement, message, State}
use Rattle.rules.specs.Inputs.{saying, ◌▸◌, below_lock, voted_for, ballot, report, current, in_order, voting_all}
use Rattle.laws.proofs.Tests.{by_bool}
use Rattle.laws.proofs.Searches.{All, all_append, all_of}
use Rattle.laws.proofs.Moves.{Outside, arrived, Move, joins, stores, passes, casts, clashes, accuses, fills, complains, enters_full, enters_pair, enters, Moves, here, more, voting_low, voting_high}
use Rattle.laws.proofs.Held.{report_all}
use Rattle.agreement.specs.Schedule.{run, IsSaid, out}
use Rattle.agreement.proofs.Events.{before, before_all, mem_after}
use Rattle.agreement.proofs.Group.{Group, st, Ok, moves_of}
use Rattle.progress.proofs.Blames.{mem_left}

-- no vote
abbrev FreeIn : Message → Type 0
FreeIn (new_view v h b c m a) = Unit {0}
FreeIn (propose v h b p m a) = Unit {0}
FreeIn (vote v h b a) = ⊥
FreeIn (blame v a) = Unit {0}
FreeIn (blame_set v m) = Unit {0}
FreeIn (status h b c m) = Unit {0}

abbrev Free : Effect → Type 0
Free (to_all m) = FreeIn m
Free (to_one i m) = Unit {0}
Free (committed h b) = Unit {0}

message_free : (x : Statement) → FreeIn (message x)
unfolding message
message_free x = go x.is_new_view refl
  where
    go : (k : Bool) → x.is_new_view ≡ k → FreeIn (message x)
    go true e = rw (e, message) tt
    go false e = rw (e, message) tt

-- a statement of the block is among what is said
abbrev pub Stated : List Effect → (v h b : ℕ) → Type 0
Stated o v h b = (y : Statement) × Memᴰ (to_all (message y)) o × (y.view ≡ v) × (y.height ≡ h) × (y.name ≡ b)

-- with each vote
abbrev Ballots : List Effect → Type 0
Ballots o = (v h b a : ℕ) → Memᴰ (to_all (vote v h b a)) o → Stated o v h b

free_ballots : (o : List Effect) → All Free o → Ballots o
free_ballots o f v h b a m = absurd (all_of Free o f (to_all (vote v h b a)) m)

mem_split : (a b : List Effect) (e : Effect) → Memᴰ e (a ++ b) → Memᴰ e a ⊎ Memᴰ e b
mem_split [] b e m = inr m
mem_split (x ∷ a) b e (Memᴰ.head q) = inl (Memᴰ.head q)
mem_split (x ∷ a) b e (Memᴰ.tail m) = go (mem_split a b e m)
  where
    go : Memᴰ e a ⊎ Memᴰ e b → Memᴰ e (x ∷ a) ⊎ Memᴰ e b
    go (inl n) = inl (Memᴰ.tail n)
    go (inr n) = inr n

ballots_append : (o p : List Effect) → Ballots o → Ballots p → Ballots (o ++ p)
ballots_append o p f g v h b a m = go (mem_split o p _ m)
  where
    go : Memᴰ (to_all (vote v h b a)) o ⊎ Memᴰ (to_all (vote v h b a)) p → Stated (o ++ p) v h b
    go (inl n) = let (y, k, q, r, s) = f v h b a n in (y, mem_left o p _ k, q, r, s)
    go (inr n) = let (y, k, q, r, s) = g v h b a n in (y, mem_after o p _ k, q, r, s)

ballot_ballots : (x : Statement) (s : State) → Ballots (ballot x s)
unfolding ballot
ballot_ballots x s v h b a (Memᴰ.head e) = absurd (subst Free (sym e) (message_free x))
ballot_ballots x s v h b a (Memᴰ.tail (Memᴰ.head e)) =
    let p : v ≡ x.view = cc in
    let q : h ≡ x.height = cc in
    let r : b ≡ x.name = cc in
    (x, Memᴰ.head refl, sym p, sym q, sym r)
ballot_ballots x s v h b a (Memᴰ.tail (Memᴰ.tail m)) = absurd (Memᴰ.not-nil m)

voting_all_ballots : (ys : List Statement) (s : State) → Ballots (voting_all ys s).out
unfolding voting_all saying ◌▸◌
voting_all_ballots [] s = free_ballots [] tt
voting_all_ballots (y ∷ ys) s =
    by_bool (below_lock y s) (λ l. rw (voting_low y s l) (voting_all_ballots ys s))
    (λ l. rw (voting_high y s l) (ballots_append (ballot y s) (voting_all ys (voted_for y s)).out (ballot_ballots y s) (voting_all_ballots ys (voted_for y s))))

module _ {R : Outside} where
  move_ballots : (s t : State) (o : List Effect) → Move R s t o → Ballots o
  move_ballots s t o (joins n m u g c) = free_ballots [] tt
  move_ballots s t o (stores x g f) = free_ballots [] tt
  move_ballots s t o (passes x g f c l) = free_ballots [] tt
  move_ballots s t o (casts x g f c l) = ballot_ballots x s
  move_ballots s t o (clashes x y g f c) = free_ballots _ (message_free y, (message_free x, tt))
  move_ballots s t o (accuses v m a f) = free_ballots [] tt
  move_ballots s t o (fills v m a f) = free_ballots _ (tt, tt)
  move_ballots s t o (complains f) = free_ballots _ (tt, tt)
  move_ballots s t o (enters_full e c) = free_ballots _ (all_append Free (report s) _ (report_all Free s (λ i m. tt)) (tt, tt))
  move_ballots s t o (enters_pair p e c f) =
      free_ballots _ (all_append Free (report s) _ (report_all Free s (λ i m. tt)) (message_free p.0, (message_free p.1, tt)))
  move_ballots s t o (enters e c f) =
      let ys = in_order (current (arrived s)) in
      ballots_append (report s) (voting_all ys (arrived s)).out (free_ballots (report s) (report_all Free s (λ i m. tt))) (voting_all_ballots ys (arrived s))

  moves_ballots : (s t : State) (o : List Effect) → Moves R s t o → Ballots o
  moves_ballots s t o here = free_ballots [] tt
  moves_ballots s t o (more {t = u} {o = p} {p = q} a b) = ballots_append p q (moves_ballots s u p a) (move_ballots u t q b)

pub says_ballot : (X : Group) (i : ℕ) → Ok X i → (k v h b a : ℕ) → IsSaid (run X.size X.n X.D X.event) i k (to_all (vote v h b a))
    → Stated (out X.size X.n X.D X.event i k) v h b
says_ballot X i hi k v h b a m =
    let (o, q, w) = moves_of X i hi k in
    let s = st X i k in
    let e = X.event k in
    subst (λ (l : List Effect). Ballots l) (sym q)
    (ballots_append (before e s) o (free_ballots (before e s) (before_all Free e s (λ x y. tt))) (moves_ballots _ _ o w)) v h b a m
