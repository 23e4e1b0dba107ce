-- The log: a commit leaves it linked, every logged block is stored, and it is no longer than the proposes that are stored. Assumes nothing.
use mathlib.Core.Path.{◌≡◌, refl}
use mathlib.Core.Logic.{inl, inr}
use Prim.Native.Nat.{ℕ, zero, suc, ◌+◌, ◌-◌, ◌≤◌, ◌<◌}
use native.Mathlib.Omega.{arith}
use mathlib.Core.Bool.{Bool, true, false, not, ◌&&◌}
use mathlib.Core.List.{List, [], ◌∷◌, Memᴰ as Mem}
use mathlib.Core.Option.{some, some-injective}
use lib.Dec.{leb, eqb}
use lib.ListN.{length}
use borrow.Author.Tests.{eqb-true, leb-true, le-leb, lt-leb, not-true}
use Rattle.rules.specs.Lists.{first, any, keep}
use Rattle.rules.specs.Messages.{block_allowed}
use Rattle.rules.specs.Words.{Statement, State}
use Rattle.rules.specs.Inputs.{is_block, chain_to, chain, commits}
use Rattle.rules.specs.WellFormed.{linked}
use Rattle.laws.proofs.Tests.{by_option, no_some, eqb_self}
use Rattle.laws.proofs.Truths.{and_2, and_3, both}
use Rattle.laws.proofs.Searches.{any_mem, first_any, first_mem}
use Rattle.laws.proofs.Allowed.{genesis_zero}
use Rattle.laws.proofs.Commits.{commits_some}
use Rattle.kept.specs.Parts.{Formed}
use Rattle.kept.specs.Said.{Each}
use Rattle.kept.proofs.Lists.{each_mem, any_find, keep_length, keep_fewer, keep_fewer_by}
use Rattle.kept.proofs.Tables.{is_above}
use Rattle.kept.proofs.Statements.{stored_stated}

pub block_parts : (h b : ℕ) (x : Statement) → is_block h b x ≡ true → (x.is_new_view ≡ false) × (h ≡ x.height) × (b ≡ x.name)
unfolding is_block
block_parts h b x e =
    let t = and_3 (not x.is_new_view) (eqb h x.height) (eqb b x.name) e in
    (not-true x.is_new_view t.0, eqb-true h x.height t.1, eqb-true b x.name t.2)

pub block_self : (x : Statement) → x.is_new_view ≡ false → is_block x.height x.name x ≡ true
unfolding is_block
block_self x e = rw (e, eqb_self x.height, eqb_self x.name)

pub linked_cons : (xs : List Statement) (h parent b : ℕ) (l : List ℕ) → linked xs h parent (b ∷ l) ≡ true
    → (any (is_above (suc h) b parent) xs ≡ true) × (linked xs (suc h) b l ≡ true)
unfolding linked
linked_cons xs h parent b l e = and_2 (any (is_above (suc h) b parent) xs) (linked xs (suc h) b l) e

cons_linked : (xs : List Statement) (h parent b : ℕ) (l : List ℕ) → any (is_above (suc h) b parent) xs ≡ true → linked xs (suc h) b l ≡ true
    → linked xs h parent (b ∷ l) ≡ true
unfolding linked
cons_linked xs h parent b l p q = both p q

nil_linked : (xs : List Statement) (h parent : ℕ) → linked xs h parent [] ≡ true
unfolding linked
nil_linked xs h parent = refl

-- ---- counting: at each height a propose

-- the proposes no higher than h
up_to : ℕ → Statement → Bool
up_to h x = not x.is_new_view && leb x.height h

abbrev pub proposes : List Statement → List Statement
proposes xs = keep (λ x. not x.is_new_view) xs

up_to_suc : (h : ℕ) (x : Statement) → up_to h x ≡ true → up_to (suc h) x ≡ true
unfolding up_to
up_to_suc h x e =
    let t = and_2 (not x.is_new_view) (leb x.height h) e in
    let l = leb-true x.height h t.1 in
    both t.0 (le-leb x.height (suc h) (omega arith))

module _ (xs : List Statement) where
  up_to_more : (h b : ℕ) {x : Statement} → Mem x xs → is_block (suc h) b x ≡ true → length (keep (up_to h) xs) < length (keep (up_to (suc h)) xs)
  unfolding up_to
  up_to_more h b {x} m e =
      let (k, l, _) = block_parts (suc h) b x e in
      keep_fewer_by (up_to h) (up_to (suc h)) (up_to_suc h) xs m
      (rw (k, lt-leb x.height h (omega arith))) (rw (k, le-leb x.height (suc h) (omega arith)))

  linked_up_to : (h parent : ℕ) (l : List ℕ) → linked xs h parent l ≡ true → length (keep (up_to h) xs) + length l ≤ length (proposes xs)
  unfolding up_to
  linked_up_to h parent [] e =
      let k = keep_fewer (up_to h) (λ x. not x.is_new_view) (λ y t. (and_2 (not y.is_new_view) (leb y.height h) t).0) xs in omega arith
  linked_up_to h parent (b ∷ l) e =
      let t = linked_cons xs h parent b l e in
      let (x, m, k) = any_find (is_above (suc h) b parent) xs t.0 in
      let u = up_to_more h b m (and_2 (is_block (suc h) b x) (eqb parent x.link) k).0 in
      let ih = linked_up_to (suc h) b l t.1 in
      omega arith

  -- what is linked to genesis is no longer than the proposes
  pub linked_length : (l : List ℕ) → linked xs 0 0 l ≡ true → length l ≤ length (proposes xs)
  linked_length l e = let h = linked_up_to 0 0 l e in omega arith

  pub proposes_length : length (proposes xs) ≤ length xs
  proposes_length = keep_length (λ x. not x.is_new_view) xs

-- ---- chains and commits

module _ {s : State} (f : Formed s) where
  chain_to_linked : (h b : ℕ) (above l : List ℕ) → block_allowed h b ≡ true → linked s.statements h b above ≡ true
      → chain_to s.statements h b above ≡ some l → linked s.statements 0 0 l ≡ true
  unfolding chain_to
  chain_to_linked zero b above l a k e = rw (← some-injective above l e) (rw (genesis_zero b a) at k)
  chain_to_linked (suc h) b above l a k e =
      by_option (first (is_block (suc h) b) s.statements) (λ q. no_some (rw (q, chain_to) at e)) λ x q.
      let m = first_mem (is_block (suc h) b) s.statements x q in
      let t = (first_any (is_block (suc h) b) s.statements x q).1 in
      let (n, o, _) = block_parts (suc h) b x t in
      let z : x.height - 1 ≡ h = omega arith in
      let p = (stored_stated f x m).parent n in
      chain_to_linked h x.link (b ∷ above) l (rw z at p.1)
      (cons_linked s.statements h x.link b above (any_mem (is_above (suc h) b x.link) s.statements x m (both t (eqb_self x.link))) k) (rw (q, chain_to) at e)

  -- a whole chain of a stored propose is linked to genesis
  pub chain_linked : (x : Statement) (l : List ℕ) → Mem x s.statements → x.is_new_view ≡ false → chain s.statements x ≡ some l
      → linked s.statements 0 0 l ≡ true
  unfolding chain
  chain_linked x l m n e =
      let (h, p) = (stored_stated f x m).parent n in
      let z : suc (x.height - 1) ≡ x.height = omega arith in
      let o : is_block (suc (x.height - 1)) x.name x ≡ true = rw z (block_self x n) in
      chain_to_linked (x.height - 1) x.link (x.name ∷ []) l p
      (cons_linked s.statements (x.height - 1) x.link x.name [] (any_mem (is_above (suc (x.height - 1)) x.name x.link) s.statements x m (both o (eqb_self x.link)))
      (nil_linked s.statements (suc (x.height - 1)) x.name)) e

  pub commits_linked : (ds : List Statement) (l k : List ℕ) → Each (λ x. Mem x s.statements × (x.is_new_view ≡ false)) ds
      → commits s.statements ds l ≡ some k → linked s.statements 0 0 l ≡ true → linked s.statements 0 0 k ≡ true
  commits_linked ds l k a e h =
      elim (commits_some s.statements ds l k e).from [
        | inl o ↦ rw o h
        | inr (x, i, c) ↦ (let (m, n) = each_mem (λ y. Mem y s.statements × (y.is_new_view ≡ false)) a i in chain_linked x k m n c)
      ]
