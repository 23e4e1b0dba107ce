-- What the check told of the log's lowest names: the chains of the blocks there are the log. Assumes nothing.
use Prim.Native.Nat.{ℕ, zero, suc, ◌+◌, ◌-◌, ◌<◌, ◌≤◌}
use mathlib.Core.Path.{◌≡◌, refl, sym, ap, ◌∙◌, subst}
use mathlib.Core.Bool.{Bool, true, false}
use mathlib.Core.List.{List, [], ◌∷◌}
use mathlib.Core.Option.{some}
use native.Mathlib.Omega.{arith}
use native.Mathlib.Nat.{zero-add}
use native.Mathlib.Numerals.{add-one}
use native.Mathlib.Decide.{dec_lt}
use lib.Dec.{eqb}
use borrow.Author.Tests.{eqb-true}
use Rattle.rules.specs.Lists.{first}
use Rattle.rules.specs.Inputs.{is_block, chain_to, chain}
use Rattle.store.specs.Decode.{nth, rows, statement_at, statements, name_at}
use Rattle.linked.specs.Told.{name_below, Told}
use Rattle.walks.specs.Chains.{Meets}
use Rattle.glance.proofs.Telling.{told_height, told_name}

pub below_name : (b : List ℕ) (k : ℕ) → 0 < k → name_below b k ≡ name_at b (k - 1)
below_name b zero l = absurd (omega arith)
below_name b (suc k) l = let e : suc k - 1 ≡ k = omega arith in ap (name_at b) (sym e)

module _ {b t : List ℕ} (told : Told b t) where
  -- what is told of a height is told of those below
  pub told_under : (k : ℕ) → 0 < nth t k → (j : ℕ) → j ≤ k → 0 < nth t j
  told_under k l j m =
      elim (dec_lt j k) [
        | yes u ↦ told.lowest j k u l
        | no u ↦ (let e : k ≡ j = omega arith in omega (arith, ap (nth t) e))
      ]

  -- the block that is told of a height
  pub told_at : {P : Type 0} (k : ℕ) → 0 < nth t k → ((p : ℕ) → nth t k ≡ suc p → P) → P
  told_at {P} k l f = go (nth t k) refl l
    where
      go : (m : ℕ) → nth t k ≡ m → 0 < m → P
      go zero e m = absurd (omega arith)
      go (suc p) e m = f p e

  -- a chain that goes on with the log at a height ends with the log's names from there down
  pub reach : (f : ℕ → ℕ) (k n : ℕ) → ((j : ℕ) → j < k → 0 < nth t j) → ((j : ℕ) → j < k → f j ≡ name_at b j)
      → chain_to (statements b) k (name_below b k) (rows f k n) ≡ some (rows f 0 (k + n))
  unfolding chain_to rows
  reach f zero n l e = ap (λ (m : ℕ). some (rows f 0 m)) (sym (zero-add n))
  reach f (suc k) n l e =
      told_at k (l k (omega arith))
      (λ p q.
      let s = told.settles k p q in
      let here : first (is_block (suc k) (name_at b k)) (statements b) ≡ some (statement_at b p) =
      ap (λ (h : ℕ). first (is_block h (name_at b k)) (statements b)) (sym (add-one k)) ∙ s.is_first in
      let more : k + suc n ≡ suc k + n = omega arith in
      rw (here, chain_to)
      (ap (λ (m : ℕ). chain_to (statements b) k m (name_at b k ∷ rows f (suc k) n)) s.parent
      ∙ ap (λ (m : ℕ). chain_to (statements b) k (name_below b k) (m ∷ rows f (suc k) n)) (sym (e k (omega arith)))
      ∙ reach f k (suc n) (λ j m. l j (omega arith)) (λ j m. e j (omega arith))
      ∙ ap (λ (m : ℕ). some (rows f 0 m)) more))

  module _ (k p : ℕ) (q : nth t k ≡ suc p) where
    -- the chain of the block that is told of a height
    pub told_chain : (f : ℕ → ℕ) → ((j : ℕ) → j ≤ k → f j ≡ name_at b j) → chain (statements b) (statement_at b p) ≡ some (rows f 0 (k + 1))
    unfolding chain rows
    told_chain f e =
        let low : (statement_at b p).height - 1 ≡ k = omega (arith, told_height told k p q) in
        let name : (statement_at b p).name ≡ f k = sym (told_name told k p q) ∙ sym (e k (omega arith)) in
        (λ i. chain_to (statements b) (low i) ((told.settles k p q).parent i) (name i ∷ []))
        ∙ reach f k 1 (λ j m. told_under k (omega (arith, q)) j (omega arith)) (λ j m. e j (omega arith))

-- ---- what is read of the table

pub meets_read : (b t : List ℕ) (k link : ℕ) {name p : ℕ} → p ≡ nth t (k - 1) → (p ≡ 0 → ⊥) → name ≡ name_at b (k - 1) → (r : Bool) → r ≡ eqb link name → Meets b t k link r
meets_read b t k link {name} {p} e d n true z = (omega (arith, d), eqb-true link name (sym z) ∙ n)
meets_read b t k link e d n false z = tt

pub meets_low : {b t : List ℕ} → Told b t → (k link : ℕ) (r : Bool) → Meets b t k link r → r ≡ true → 0 < k → (j : ℕ) → j < k → 0 < nth t j
meets_low {b} {t} told k link r m e pos j l = told_under told (k - 1) (subst (Meets b t k link) e m).0 j (omega arith)
