-- A chain and the log as rows of names: when they join, and to what. Assumes nothing.
use Prim.Native.Nat.{ℕ, zero, suc, ◌+◌, ◌<◌, ◌≤◌}
use mathlib.Core.Path.{◌≡◌, refl, sym, ap, ◌∙◌, subst}
use mathlib.Core.Bool.{Bool, true, false}
use mathlib.Core.List.{List, ◌∷◌}
use mathlib.Core.Option.{none, some, map}
use native.Mathlib.Omega.{arith}
use lib.Dec.{eqb}
use borrow.Author.Tests.{eq-eqb, ne_eqb}
use native.Mathlib.Decide.{dec_lt}
use Rattle.rules.specs.Words.{Statement}
use Rattle.rules.specs.Inputs.{chain, merge, commit}
use Rattle.store.specs.Decode.{rows}
use Rattle.store.proofs.Rows.{rows_same}
use Rattle.glance.specs.Tables.{name_in}
use Rattle.merging.specs.Joins.{name_so_far, Copied, WholeChain, Agree, JoinedWith}
use Rattle.std.specs.Prelude.{None, Some}
use Rattle.merging.proofs.Places.{name_same, so_far_new, so_far_same}

module _ (f g : ℕ → ℕ) where
  -- the chain is no longer than the log: the log stays
  pub merge_short : (i h n : ℕ) → h ≤ n → ((k : ℕ) → i ≤ k → k < i + h → f k ≡ g k) → merge (rows f i h) (rows g i n) ≡ some (rows g i n)
  unfolding merge rows
  merge_short i zero n l e = refl
  merge_short i (suc h) zero l e = absurd (omega arith)
  merge_short i (suc h) (suc n) l e =
      rw (eq-eqb (f i) (g i) (e i (omega arith) (omega arith)), merge)
      (ap (map (g i ∷◌)) (merge_short (suc i) h n (omega arith) (λ k p q. e k (omega arith) (omega arith))))

  -- the chain is no shorter than the log: the log is the chain
  pub merge_long : (i h n : ℕ) → n ≤ h → ((k : ℕ) → i ≤ k → k < i + n → f k ≡ g k) → merge (rows f i h) (rows g i n) ≡ some (rows f i h)
  unfolding merge rows
  merge_long i zero zero l e = refl
  merge_long i zero (suc n) l e = absurd (omega arith)
  merge_long i (suc h) zero l e = refl
  merge_long i (suc h) (suc n) l e =
      rw (eq-eqb (f i) (g i) (e i (omega arith) (omega arith)), merge)
      (ap (map (g i ∷◌)) (merge_long (suc i) h n (omega arith) (λ k p q. e k (omega arith) (omega arith)))
      ∙ ap (λ (x : ℕ). some (x ∷ rows f (suc i) h)) (sym (e i (omega arith) (omega arith))))

  -- they differ at a height that both have: none
  pub merge_differs : (i h n k : ℕ) → i ≤ k → k < i + h → k < i + n → (f k ≡ g k → ⊥) → merge (rows f i h) (rows g i n) ≡ none
  unfolding merge rows
  merge_differs i zero n k a b c d = absurd (omega arith)
  merge_differs i (suc h) zero k a b c d = absurd (omega arith)
  merge_differs i (suc h) (suc n) k a b c d =
      elim (dec_lt i k) [
        | yes l ↦ go (eqb (f i) (g i)) refl (merge_differs (suc i) h n k l (omega arith) (omega arith) d)
        | no l ↦ (let e : i ≡ k = omega arith in rw (ne_eqb (f i) (g i) (λ q. d (subst (λ (j : ℕ). f j ≡ g j) e q)), merge))
      ]
    where
      go : (t : Bool) → eqb (f i) (g i) ≡ t → merge (rows f (suc i) h) (rows g (suc i) n) ≡ none → merge (rows f i (suc h)) (rows g i (suc n)) ≡ none
      go true e q = rw (e, merge) (ap (map (g i ∷◌)) q)
      go false e q = rw (e, merge)

-- ---- one block

module _ (xs : List Statement) (x : Statement) (l : List ℕ) where
  pub commit_none : chain xs x ≡ none → commit xs x l ≡ some l
  unfolding commit
  commit_none e = rw (e, commit)

  pub commit_some : (c : List ℕ) → chain xs x ≡ some c → commit xs x l ≡ merge c l
  unfolding commit
  commit_some c e = rw (e, commit)

-- ---- the three ways

module _ (b gained chain : List ℕ) (logged len height : ℕ) (r : WholeChain b gained chain logged len height) (end : ℕ) (a : Bool)
    (agree : Agree (name_in b chain) (name_so_far b gained) end a) where
  abbrev F : ℕ → ℕ
  F = name_in b chain

  abbrev G : ℕ → ℕ
  G = name_so_far b gained

  pub join_differs : end ≤ height → end ≤ len → a ≡ false → JoinedWith b gained gained chain height len None
  join_differs p q e =
      let d = subst (Agree F G end) e agree in
      merge_differs F G 0 height len d.0 (omega arith) (omega (arith, d.1)) (omega (arith, d.1)) d.2

  alike : a ≡ true → (k : ℕ) → k < end → F k ≡ G k
  alike e = subst (Agree F G end) e agree

  pub join_stays : height ≤ len → height ≤ end → a ≡ true → JoinedWith b gained gained chain height len (Some len)
  join_stays p q e = (
    record {
      is = merge_short F G 0 height len p (λ k l m. alike e k (omega arith));
      more = omega (arith, r.old, r.more);
      fits = r.fits;
      stored = λ k l m. r.gains k (omega (arith, r.old)) m;
    },
    record { up = p; same = λ k l. alike e k (omega arith) },
  )

  pub join_grows : len ≤ height → len ≤ end → a ≡ true → (left : List ℕ) → Copied chain gained left len height → JoinedWith b gained left chain height len (Some height)
  join_grows p q e left c = (
    record {
      is = merge_long F G 0 height len p (λ k l m. alike e k (omega arith)) ∙ ap some (rows_same F (name_so_far b left) 0 height (λ k l m. same k (omega arith)));
      more = omega (arith, r.old, r.more);
      fits = r.high;
      stored = λ k l m.
          elim (dec_lt k len) [
            | yes u ↦ omega (arith, c.below k u, r.gains k (omega (arith, r.old)) u)
            | no u ↦ omega (arith, c.within k (omega arith) m, r.blocks k (omega arith) m)
          ];
    },
    record { up = omega arith; same = same },
  )
    where
      same : (k : ℕ) → k < height → F k ≡ name_so_far b left k
      same k l =
          elim (dec_lt k len) [
            | yes u ↦ alike e k (omega arith) ∙ so_far_same b gained left k (c.below k u)
            | no u ↦ sym (so_far_new b left k (omega (arith, r.old, r.more)) ∙ name_same b chain left k (c.within k (omega arith) l))
          ]
