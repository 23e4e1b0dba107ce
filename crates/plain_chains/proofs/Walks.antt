-- The walk from a block down to height 1; a whole chain is no longer than the statements are many. Assumes nothing.
use Prim.Native.Nat.{ℕ, zero, suc, ◌+◌, ◌-◌, ◌<◌, ◌≤◌}
use mathlib.Core.Path.{◌≡◌, sym, ap, ◌∙◌}
use mathlib.Core.Bool.{Bool, true}
use mathlib.Core.List.{List, [], ◌∷◌}
use mathlib.Core.Option.{Option, none, some}
use native.Mathlib.Omega.{arith}
use lib.Dec.{leb}
use lib.ListN.{length, set, drop, length-set}
use borrow.Author.Tests.{leb-true, le-leb, lt-leb}
use Rattle.fields.specs.Names.{name_of}
use Rattle.fields.specs.declared.Name.{Name}
use Rattle.rules.specs.Lists.{first, keep}
use Rattle.rules.specs.Words.{Statement}
use Rattle.rules.specs.Inputs.{is_block, chain_to, chain}
use Rattle.laws.proofs.Tests.{by_option, no_some}
use Rattle.laws.proofs.Searches.{first_any, first_mem}
use Rattle.kept.proofs.Lists.{keep_length, keep_fewer_by}
use Rattle.kept.proofs.Logs.{block_parts}
use Rattle.plain_words.specs.Places.{firsts, Within}
use Rattle.plain_words.proofs.Firsts.{firsts_long, firsts_done}
use Rattle.plain_statements.specs.Meaning.{held_of, statements, room}
use Rattle.plain_statements.specs.declared.Statements.{Statements}
use Rattle.plain_chains.proofs.Parts.{drop_set}

pub counted : (t : Statements) → Within room t.items t.count → length (statements t) ≡ t.count
unfolding statements
counted t w = firsts_long held_of t.items t.count (omega (arith, w.long, w.most))

-- ---- a whole chain has a statement at each height

up_to : ℕ → Statement → Bool
up_to h x = leb x.height h

up_to_suc : (h : ℕ) (x : Statement) → up_to h x ≡ true → up_to (suc h) x ≡ true
unfolding up_to
up_to_suc h x e = let l = leb-true x.height h e in le-leb x.height (suc h) (omega arith)

module _ (xs : List Statement) where
  up_to_more : (h b : ℕ) (x : Statement) → first (is_block (suc h) b) xs ≡ some x → length (keep (up_to h) xs) < length (keep (up_to (suc h)) xs)
  unfolding up_to
  up_to_more h b x e =
      let (k, l, _) = block_parts (suc h) b x (first_any (is_block (suc h) b) xs x e).1 in
      keep_fewer_by (up_to h) (up_to (suc h)) (up_to_suc h) xs (first_mem (is_block (suc h) b) xs x e)
      (lt-leb x.height h (omega arith)) (le-leb x.height (suc h) (omega arith))

  chain_up : (k b : ℕ) (above c : List ℕ) → chain_to xs k b above ≡ some c → k ≤ length (keep (up_to k) xs)
  unfolding chain_to
  chain_up zero b above c e = omega arith
  chain_up (suc k) b above c e =
      by_option (first (is_block (suc k) b) xs) (λ q. no_some (rw (q, chain_to) at e)) λ x q.
      omega (arith, up_to_more k b x q, chain_up k x.link (b ∷ above) c (rw (q, chain_to) at e))

  -- a block higher than all of them are many has no whole chain
  pub too_high : (x : Statement) → length xs < x.height - 1 → none ≡ chain xs x
  unfolding chain
  too_high x h =
      by_option (chain xs x) (λ e. sym e) λ c e.
      absurd (omega (arith, chain_up (x.height - 1) x.link (x.name ∷ []) c e, keep_length (up_to (x.height - 1)) xs))

-- ---- the walk: what is found stands in the array from its height on

chain_step : (xs : List Statement) (k b : ℕ) (above : List ℕ) (y : Statement) → first (is_block (suc k) b) xs ≡ some y
    → chain_to xs (suc k) b above ≡ chain_to xs k y.link (b ∷ above)
unfolding chain_to
chain_step xs k b above y q = rw (q, chain_to)

chain_broken : (xs : List Statement) (k b : ℕ) (above : List ℕ) → first (is_block (suc k) b) xs ≡ none → chain_to xs (suc k) b above ≡ none
unfolding chain_to
chain_broken xs k b above q = rw (q, chain_to)

-- at height k, with the block below still to be found; the chain is what it was at the start of the walk
pub record Walk (xs : List Statement) (start : Option (List ℕ)) (items : List Name) (count k link most : ℕ) : Type 0 where
  pub long : length items ≡ most
  pub fits : count ≤ most
  pub below : k < count
  pub is : start ≡ chain_to xs k link (drop k (firsts name_of items count))

-- the walk starts with the block's own name
pub chain_start : (xs : List Statement) (x : Statement) (items : List Name) (k : ℕ) (name : Name) → k ≡ x.height - 1 → k < length items → name_of name ≡ x.name
    → chain xs x ≡ chain_to xs k x.link (drop k (firsts name_of (set items k name) (k + 1)))
unfolding chain
chain_start xs x items k name e h n =
    ap (λ (j : ℕ). chain_to xs j x.link (x.name ∷ [])) (sym e)
    ∙ ap (chain_to xs k x.link) (sym (drop_set name_of items (k + 1) k name (omega arith) (omega arith) ∙ ap (name_of name ∷◌) (firsts_done name_of items (k + 1) (suc k) (omega arith)) ∙ ap (λ (b : ℕ). b ∷ []) n))

module _ {xs : List Statement} {start : Option (List ℕ)} {items : List Name} {count k link most : ℕ} (w : Walk xs start items count k link most) where
  pub walk_end : k ≤ 0 → start ≡ some (firsts name_of items count)
  unfolding chain_to
  walk_end z = let e : k ≡ 0 = omega arith in w.is ∙ rw e

  pub walk_broken : 0 < k → first (is_block k link) xs ≡ none → start ≡ none
  walk_broken z q =
      let e : k ≡ suc (k - 1) = omega arith in
      w.is ∙ ap (λ (m : ℕ). chain_to xs m link (drop m (firsts name_of items count))) e ∙ chain_broken xs (k - 1) link _ (ap (λ (m : ℕ). first (is_block m link) xs) (sym e) ∙ q)

  pub walk_next : (y : Statement) (b : Name) → name_of b ≡ link → 0 < k → first (is_block k link) xs ≡ some y
      → Walk xs start (set items (k - 1) b) count (k - 1) y.link most
  walk_next y b n z q =
      let e : k ≡ suc (k - 1) = omega arith in
      record {
        long = length-set items (k - 1) b ∙ w.long;
        fits = w.fits;
        below = omega (arith, w.below);
        is =
            w.is ∙ ap (λ (m : ℕ). chain_to xs m link (drop m (firsts name_of items count))) e
            ∙ chain_step xs (k - 1) link _ y (ap (λ (m : ℕ). first (is_block m link) xs) (sym e) ∙ q)
            ∙ ap (chain_to xs (k - 1) y.link) (sym (drop_set name_of items count (k - 1) b (omega (arith, w.long, w.fits)) (omega (arith, w.below)) ∙ ap (λ (m : ℕ). m ∷ drop (suc (k - 1)) (firsts name_of items count)) n));
      }
