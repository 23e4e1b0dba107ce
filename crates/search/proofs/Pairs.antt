-- The step of the search for two statements of a view that conflict. Assumes nothing.
use Prim.Native.Nat.{ℕ, ◌+◌, ◌-◌, ◌<◌, ◌≤◌}
use mathlib.Core.Path.{◌≡◌, refl, sym, ap, ◌∙◌, subst}
use mathlib.Core.Bool.{Bool, false}
use mathlib.Core.List.{List, [], ◌∷◌}
use mathlib.Core.Option.{Option, none, some}
use native.Mathlib.Omega.{arith}
use lib.Dec.{eqb}
use borrow.Author.Tests.{eq-eqb, ne_eqb, eqb-true, eqb-false}
use Rattle.rules.specs.Lists.{first, keep}
use Rattle.rules.specs.Words.{Statement, conflict}
use Rattle.rules.specs.Inputs.{pair}
use Rattle.laws.proofs.Tests.{by_bool}
use Rattle.words.proofs.Statements.{other_view}
use Rattle.store.specs.Decode.{rows}
use Rattle.store.specs.Searches.{first_from}
use Rattle.std.specs.Prelude.{Option as Maybe, Some, None}
use Rattle.store.proofs.Rows.{rows_from, rows_end}
use Rattle.search.specs.Lookups.{of_view, rival_in}
use Rattle.search.specs.Finds.{found_in, Inside, Finds}
use Rattle.search.proofs.Searches.{found_first}

-- ---- what was found, taken apart

module _ {A : Type 0} {f : ℕ → A} {n : ℕ} {o : Option A} {r : Maybe ℕ} (k : Finds f n o r) where
  pub finds_nothing : r ≡ None → o ≡ none
  finds_nothing e = sym k.is ∙ ap (found_in f) e

  pub finds_at : (j : ℕ) → r ≡ Some j → o ≡ some (f j)
  finds_at j e = sym k.is ∙ ap (found_in f) e

  pub finds_inside : (j : ℕ) → r ≡ Some j → j < n
  finds_inside j e = subst (Inside n) e k.inside

-- ---- statements of a view

-- what is looked for is looked for in vain among those that are not kept
first_keep : {A : Type 0} (p q : A → Bool) → ((x : A) → q x ≡ false → p x ≡ false) → (xs : List A) → first p (keep q xs) ≡ first p xs
unfolding first keep
first_keep p q h [] = refl
first_keep p q h (x ∷ xs) =
    by_bool (q x)
    (λ t. by_bool (p x) (λ s. rw (t, keep, s, first)) (λ s. rw (t, keep, s, first) (first_keep p q h xs)))
    (λ t. rw (t, keep, h x t, first) (first_keep p q h xs))

module _ (v : ℕ) (x : Statement) (xs : List Statement) where
  pub of_view_lem : x.view ≡ v → of_view v (x ∷ xs) ≡ x ∷ of_view v xs
  unfolding of_view
  of_view_lem e = rw (eq-eqb _ _ e, keep)

  pub of_other : (x.view ≡ v → ⊥) → of_view v (x ∷ xs) ≡ of_view v xs
  unfolding of_view
  of_other d = rw (ne_eqb _ _ d, keep)

  first_of_view : x.view ≡ v → first (conflict x) (of_view v xs) ≡ first (conflict x) xs
  unfolding of_view
  first_of_view e = first_keep (conflict x) (λ y. eqb y.view v) (λ y d. sym (other_view x y (λ q. eqb-false y.view v d (sym q ∙ e)))) xs

  rival_view : x.view ≡ v → rival_in v xs x ≡ first (conflict x) xs
  unfolding rival_in
  rival_view e = rw (eq-eqb _ _ e, rival_in)

  rival_none : (x.view ≡ v → ⊥) → rival_in v xs x ≡ none
  unfolding rival_in
  rival_none d = rw (ne_eqb _ _ d, rival_in)

-- ---- the pair

-- a statement and its rival, or what the rest has
abbrev paired : Statement → Option Statement → Option (Statement × Statement) → Option (Statement × Statement)
paired x none rest = rest
paired x (some y) rest = some (x, y)

pair_cons : (x : Statement) (ys : List Statement) (o : Option Statement) → first (conflict x) ys ≡ o → pair (x ∷ ys) ≡ paired x o (pair ys)
unfolding pair
pair_cons x ys none q = rw (q, pair)
pair_cons x ys (some y) q = rw (q, pair)

pair_view : (v : ℕ) (x : Statement) (xs : List Statement) → pair (of_view v (x ∷ xs)) ≡ paired x (rival_in v xs x) (pair (of_view v xs))
pair_view v x xs =
    by_bool (eqb x.view v)
    (λ q.
    let e = eqb-true _ _ q in
    ap pair (of_view_lem v x xs e) ∙ pair_cons x (of_view v xs) (rival_in v xs x) (first_of_view v x xs e ∙ sym (rival_view v x xs e)))
    (λ q.
    let d = eqb-false _ _ q in
    ap pair (of_other v x xs d) ∙ ap (λ (o : Option Statement). paired x o (pair (of_view v xs))) (sym (rival_none v x xs d)))

module _ (f : ℕ → Statement) (v n : ℕ) where
  abbrev rest : ℕ → List Statement
  rest i = rows f (i + 1) (n - (i + 1))

  pub pair_end : (i : ℕ) → n ≤ i → pair (of_view v (rows f i (n - i))) ≡ none
  unfolding pair of_view
  pair_end i h = rw (rows_end f n i h)

  pub pair_step : (i : ℕ) → i < n → (o : Option Statement) → rival_in v (rest i) (f i) ≡ o → pair (of_view v (rows f i (n - i))) ≡ paired (f i) o (pair (of_view v (rest i)))
  pair_step i h o e =
      ap (λ (xs : List Statement). pair (of_view v xs)) (rows_from f i n h) ∙ pair_view v (f i) (rest i)
      ∙ ap (λ (r : Option Statement). paired (f i) r (pair (of_view v (rest i)))) e

  -- the rival of one statement
  pub rival_other : (i : ℕ) → ((f i).view ≡ v → ⊥) → Finds f n (rival_in v (rest i) (f i)) None
  rival_other i d = record { is = sym (rival_none v (f i) (rest i) d); inside = tt }

  pub rival_found : (i : ℕ) → i < n → (f i).view ≡ v → (p : Statement → Bool) → p ≡ conflict (f i) → (r : Maybe ℕ) → r ≡ first_from p (i + 1) (rest i)
      → Finds f n (rival_in v (rest i) (f i)) r
  rival_found i h e p q r k =
      let z : i + 1 + (n - (i + 1)) ≡ n = omega arith in
      subst (λ (o : Option Statement). Finds f n o r) (ap (λ (t : Statement → Bool). first t (rest i)) q ∙ sym (rival_view v (f i) (rest i) e))
      (subst (λ (m : ℕ). Finds f m (first p (rest i)) r) z (subst (Finds f (i + 1 + (n - (i + 1))) (first p (rest i))) (sym k) (found_first f p (i + 1) (n - (i + 1)))))
