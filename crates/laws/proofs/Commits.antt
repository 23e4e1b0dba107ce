-- L7: what the commits of a tick make of the log. It grows at its end, it is the old one or the chain of a due propose, each due
-- chain begins it, and what is reported is what it gained. Assumes nothing.
use mathlib.Core.Path.{◌≡◌, subst, refl, sym, ap, ◌∙◌}
use Prim.Native.Nat.{ℕ, suc, ◌+◌, ◌-◌, ◌*◌, ◌≤◌}
use native.Mathlib.Omega.{arith}
use mathlib.Core.Bool.{true, false, not, ◌&&◌}
use mathlib.Core.List.Memᴰ
use mathlib.Core.List.{List, [], ◌∷◌, ◌++◌, append_assoc, append-nil, IsPrefix, head-eq_of_cons-eq, tail-eq_of_cons-eq, Memᴰ}
use mathlib.Core.Logic.{◌⊎◌, inl, inr}
use mathlib.Core.Option.{none, some, some-injective, map-eq-some_iff}
use lib.Dec.{eqb}
use lib.ListN.{length}
use borrow.Author.Tests.{eqb-true, leb-true, le-leb, eq-eqb, not-true}
use Rattle.rules.specs.Messages.{Message, Effect, to_all, to_one, committed}
use Rattle.rules.specs.Words.{Statement, State}
use Rattle.rules.specs.Inputs.{saying, ◌▸◌, is_in, below_lock, voted_for, ballot, is_due, due, chain, merge, commit, commits, reports, report, current, in_order, voting_all}
use Rattle.laws.proofs.Tests.{by_bool, by_option, no_some, no_bool}
use Rattle.laws.proofs.Truths.{and_2}
use Rattle.laws.proofs.Searches.{All, all_append, by_mem, mem_keep, keep_mem, mem_sorted, sorted_mem}
use Rattle.laws.proofs.Moves.{Outside, arrived, Move, joins, stores, passes, casts, clashes, accuses, fills, complains, enters_full, enters_pair, enters, Moves, here, more, voting_low, voting_high}
use Rattle.laws.proofs.Held.{report_all}

-- ---- one log begins another

pub begins_trans : (a b c : List ℕ) → IsPrefix a b → IsPrefix b c → IsPrefix a c
begins_trans a b c (r, e) (q, f) = (r ++ q, sym (append_assoc a r q) ∙ ap (◌++ q) e ∙ f)

begins_cons : (x : ℕ) (a b : List ℕ) → IsPrefix a b → IsPrefix (x ∷ a) (x ∷ b)
begins_cons x a b (r, e) = (r, ap (x ∷◌) e)

begins_tail : (x y : ℕ) (a b : List ℕ) → IsPrefix (x ∷ a) (y ∷ b) → (x ≡ y) × IsPrefix a b
begins_tail x y a b (r, e) = (head-eq_of_cons-eq e, (r, tail-eq_of_cons-eq e))

-- ---- a chain joins the log

pub merge_some : (bs l k : List ℕ) → merge bs l ≡ some k → IsPrefix bs k × IsPrefix l k × ((k ≡ l) ⊎ (k ≡ bs))
unfolding merge
merge_some [] l k e = let f = some-injective l k e in ((k, refl), ([], append-nil l ∙ f), inl (sym f))
merge_some (b ∷ bs) [] k e = let f = some-injective (b ∷ bs) k e in (([], append-nil (b ∷ bs) ∙ f), (k, refl), inr (sym f))
merge_some (b ∷ bs) (c ∷ l) k e =
    by_bool (eqb b c)
    (λ q.
    let (j, g, h) = (map-eq-some_iff (c ∷◌) (merge bs l)).0 (rw (q, merge) at e) in
    let (p, r, o) = merge_some bs l j g in
    let bc = eqb-true b c q in
    subst (λ (x : List ℕ). IsPrefix (b ∷ bs) x × IsPrefix (c ∷ l) x × ((x ≡ c ∷ l) ⊎ (x ≡ b ∷ bs))) h
    (subst (λ (x : ℕ). IsPrefix (x ∷ bs) (c ∷ j)) (sym bc) (begins_cons c bs j p), begins_cons c l j r, either j bc o))
    (λ q. no_some (rw (q, merge) at e))
  where
    either : (j : List ℕ) → b ≡ c → (j ≡ l) ⊎ (j ≡ bs) → (c ∷ j ≡ c ∷ l) ⊎ (c ∷ j ≡ b ∷ bs)
    either j f (inl e) = inl (ap (c ∷◌) e)
    either j f (inr e) = inr (ap (c ∷◌) e ∙ ap (λ (x : ℕ). x ∷ bs) (sym f))

-- where one begins the other they join
pub begins_merge : (bs l : List ℕ) → IsPrefix bs l ⊎ IsPrefix l bs → ¬ (merge bs l ≡ none)
unfolding merge
begins_merge [] l o e = no_some (sym e)
begins_merge (b ∷ bs) [] o e = no_some (sym e)
begins_merge (b ∷ bs) (c ∷ l) o e =
    let (f, p) = heads o in
    by_option (merge bs l) (λ q. begins_merge bs l p q) (λ j q. no_some (sym (rw (f, merge, q) at e)))
  where
    heads : IsPrefix (b ∷ bs) (c ∷ l) ⊎ IsPrefix (c ∷ l) (b ∷ bs) → (eqb b c ≡ true) × (IsPrefix bs l ⊎ IsPrefix l bs)
    heads (inl p) = let r = begins_tail b c bs l p in (eq-eqb b c r.0, inl r.1)
    heads (inr p) = let r = begins_tail c b l bs p in (eq-eqb b c (sym r.0), inr r.1)

-- ---- the commits of a tick

pub record Committed (xs ds : List Statement) (l k : List ℕ) : Type 0 where
  -- the log grows at its end
  pub begins : IsPrefix l k
  -- it is as it was, or the chain of one that was due
  pub from : (k ≡ l) ⊎ ((x : Statement) × Memᴰ x ds × (chain xs x ≡ some k))
  -- the chain of each that was due begins it
  pub has : (x : Statement) (bs : List ℕ) → Memᴰ x ds → chain xs x ≡ some bs → IsPrefix bs k

commit_some : (xs : List Statement) (x : Statement) (l k : List ℕ) → commit xs x l ≡ some k → Committed xs (x ∷ []) l k
unfolding commit
commit_some xs x l k e =
    by_option (chain xs x)
    (λ q.
    let f = some-injective l k (rw (q, commit) at e) in
    record { begins = ([], append-nil l ∙ f); from = inl (sym f); has = λ y bs m c. by_mem m (λ h. no_some (sym q ∙ ap (chain xs) (sym h) ∙ c)) (λ n. absurd (Memᴰ.not-nil n)) })
    (λ bs q.
    let (p, r, o) = merge_some bs l k (rw (q, commit) at e) in
    record {
      begins = r;
      from = either bs q o;
      has = λ y cs m c.
          by_mem m (λ h. let f = some-injective bs cs (sym q ∙ ap (chain xs) (sym h) ∙ c) in subst (λ (z : List ℕ). IsPrefix z k) f p) (λ n. absurd (Memᴰ.not-nil n));
    })
  where
    either : (bs : List ℕ) → chain xs x ≡ some bs → (k ≡ l) ⊎ (k ≡ bs) → (k ≡ l) ⊎ ((y : Statement) × Memᴰ y (x ∷ []) × (chain xs y ≡ some k))
    either bs q (inl e) = inl e
    either bs q (inr e) = inr (x, Memᴰ.head refl, q ∙ ap some (sym e))

pub commits_some : (xs ds : List Statement) (l k : List ℕ) → commits xs ds l ≡ some k → Committed xs ds l k
unfolding commits
commits_some xs [] l k e =
    let f = some-injective l k e in
    record { begins = ([], append-nil l ∙ f); from = inl (sym f); has = λ y bs m c. absurd (Memᴰ.not-nil m) }
commits_some xs (x ∷ ds) l k e =
    by_option (commit xs x l) (λ q. no_some (rw (q, commits) at e)) λ j q.
    let a = commit_some xs x l j q in
    let b = commits_some xs ds j k (rw (q, commits) at e) in
    record {
      begins = begins_trans l j k a.begins b.begins;
      from = later j a.from b.from;
      has = λ y bs m c. by_mem m (λ h. begins_trans bs j k (a.has y bs (Memᴰ.head h) c) b.begins) (λ n. b.has y bs n c);
    }
  where
    later : (j : List ℕ) → (j ≡ l) ⊎ ((y : Statement) × Memᴰ y (x ∷ []) × (chain xs y ≡ some j)) → (k ≡ j) ⊎ ((y : Statement) × Memᴰ y ds × (chain xs y ≡ some k))
        → (k ≡ l) ⊎ ((y : Statement) × Memᴰ y (x ∷ ds) × (chain xs y ≡ some k))
    later j a (inr (y, m, c)) = inr (y, Memᴰ.tail m, c)
    later j (inl e) (inl f) = inl (f ∙ e)
    later j (inr (y, m, c)) (inl f) = inr (y, by_mem m (λ h. Memᴰ.head h) (λ n. absurd (Memᴰ.not-nil n)), c ∙ ap some (sym f))

-- refusal 7: the chain of one that is due differs from the log, or from the chain of another that is due
pub commits_none : (xs ds : List Statement) (l : List ℕ) → commits xs ds l ≡ none
    → (x : Statement) × (bs : List ℕ) × (j : List ℕ) × Memᴰ x ds × (chain xs x ≡ some bs) × (merge bs j ≡ none)
    × ((j ≡ l) ⊎ ((y : Statement) × Memᴰ y ds × (chain xs y ≡ some j)))
unfolding commits commit
commits_none xs [] l e = no_some (sym e)
commits_none xs (x ∷ ds) l e =
    by_option (chain xs x)
    (λ q. let (y, bs, j, m, c, f, o) = commits_none xs ds l (rw (commits, commit, q) at e) in (y, bs, j, Memᴰ.tail m, c, f, further j o))
    (λ bs q.
    by_option (merge bs l) (λ f. (x, bs, l, Memᴰ.head refl, q, f, inl refl))
    (λ k f.
    let (y, cs, j, m, c, g, o) = commits_none xs ds k (rw (commits, commit, q, f) at e) in
    (y, cs, j, Memᴰ.tail m, c, g, merged bs k j q (merge_some bs l k f).2 o)))
  where
    further : (j : List ℕ) → (j ≡ l) ⊎ ((y : Statement) × Memᴰ y ds × (chain xs y ≡ some j)) → (j ≡ l) ⊎ ((y : Statement) × Memᴰ y (x ∷ ds) × (chain xs y ≡ some j))
    further j (inl f) = inl f
    further j (inr (y, m, c)) = inr (y, Memᴰ.tail m, c)

    merged : (bs k j : List ℕ) → chain xs x ≡ some bs → (k ≡ l) ⊎ (k ≡ bs) → (j ≡ k) ⊎ ((y : Statement) × Memᴰ y ds × (chain xs y ≡ some j))
        → (j ≡ l) ⊎ ((y : Statement) × Memᴰ y (x ∷ ds) × (chain xs y ≡ some j))
    merged bs k j q o (inr (y, m, c)) = inr (y, Memᴰ.tail m, c)
    merged bs k j q (inl e) (inl f) = inl (f ∙ e)
    merged bs k j q (inr e) (inl f) = inr (x, Memᴰ.head refl, q ∙ ap some (sym (f ∙ e)))

-- ---- what is due

-- "every propose of this view voted for at least 2D+1 ticks ago"
abbrev pub Due : State → Statement → Type 0
Due s x = Memᴰ x s.statements × (x.is_new_view ≡ false) × (is_in x.view s ≡ true) × ((c : ℕ) × (x.voted ≡ some c) × (c + 2 * s.settings.D + 1 ≤ s.clock))

pub due_facts : (s : State) (x : Statement) → Memᴰ x (due s) → Due s x
unfolding due is_due
due_facts s x m =
    let (i, d) = mem_keep (is_due s) s.statements x (mem_sorted (λ (y : Statement). y.height) _ x m) in
    let a = and_2 (not x.is_new_view && is_in x.view s) _ d in
    let b = and_2 (not x.is_new_view) (is_in x.view s) a.0 in
    by_option x.voted (λ q. no_bool (sym (rw q at a.1)))
    (λ c q. let l = leb-true (2 * s.settings.D + 1) (s.clock - c) (rw q at a.1) in (i, not-true x.is_new_view b.0, b.1, (c, q, omega arith)))

pub facts_due : (s : State) (x : Statement) → Due s x → Memᴰ x (due s)
unfolding due is_due
facts_due s x (i, n, v, (c, q, l)) =
    sorted_mem (λ (y : Statement). y.height) _ x
    (keep_mem (is_due s) s.statements x i (rw (n, v, q) (le-leb (2 * s.settings.D + 1) (s.clock - c) (omega arith))))

-- ---- what is reported

pub reports_append : (h : ℕ) (a b : List ℕ) → reports h (a ++ b) ≡ reports h a ++ reports (h + length a) b
unfolding reports
reports_append h [] b = ap (λ (k : ℕ). reports k b) (omega arith)
reports_append h (x ∷ a) b = ap (committed h x ∷◌) (reports_append (suc h) a b ∙ ap (λ (k : ℕ). reports (suc h) a ++ reports k b) (omega arith))

-- nothing but the commits of a tick reports one: what moves say are messages
module _ (P : Effect → Type 0) (all : (m : Message) → P (to_all m)) (one : (i : ℕ) (m : Message) → P (to_one i m)) where
  voting_all_messages : (ys : List Statement) (s : State) → All P (voting_all ys s).out
  unfolding voting_all saying ◌▸◌ ballot
  voting_all_messages [] s = tt
  voting_all_messages (y ∷ ys) s =
      by_bool (below_lock y s) (λ l. rw (voting_low y s l) (voting_all_messages ys s))
      (λ l. rw (voting_high y s l) (all _, (all _, voting_all_messages ys (voted_for y s))))

  move_messages : {R : Outside} (s t : State) (o : List Effect) → Move R s t o → All P o
  unfolding ballot
  move_messages s t o (joins j m u g c) = tt
  move_messages s t o (stores x g f) = tt
  move_messages s t o (passes x g f c l) = tt
  move_messages s t o (casts x g f c l) = (all _, (all _, tt))
  move_messages s t o (clashes x y g f c) = (all _, (all _, tt))
  move_messages s t o (accuses v m a f) = tt
  move_messages s t o (fills v m a f) = (all _, tt)
  move_messages s t o (complains f) = (all _, tt)
  move_messages s t o (enters_full e c) = all_append P (report s) _ (report_all P s one) (all _, tt)
  move_messages s t o (enters_pair p e c f) = all_append P (report s) _ (report_all P s one) (all _, (all _, tt))
  move_messages s t o (enters e c f) =
      all_append P (report s) _ (report_all P s one) (voting_all_messages (in_order (current (arrived s))) (arrived s))

  pub moves_messages : {R : Outside} (s t : State) (o : List Effect) → Moves R s t o → All P o
  moves_messages s t o here = tt
  moves_messages s t o (more {t = u} {o = p} {p = q} a b) = all_append P p q (moves_messages s u p a) (move_messages u t q b)
