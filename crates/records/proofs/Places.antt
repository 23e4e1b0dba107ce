-- The record at a place, changed: in rows, and by the place that a search found. Assumes nothing.
use Prim.Native.Nat.{ℕ, zero, suc, ◌+◌, ◌-◌, ◌<◌, ◌≤◌}
use mathlib.Core.Path.{◌≡◌, refl, sym, ap, ◌∙◌, subst}
use mathlib.Core.Bool.{Bool, true, false}
use mathlib.Core.List.{List, [], ◌∷◌}
use native.Mathlib.Omega.{arith}
use native.Mathlib.Nat.{add-zero}
use lib.ListN.{set}
use Rattle.store.specs.Decode.{rows}
use Rattle.records.specs.Changes.{change_at}
use Rattle.rules.specs.Lists.{alter}
use Rattle.store.specs.Searches.{pick, first_from}
use Rattle.std.specs.Prelude.{Option, Some, None}

-- the record at a place, changed
pub rows_change : {A : Type 0} (g : A → A) (f : ℕ → A) (i n j : ℕ) → j < n → change_at g j (rows f i n) ≡ set (rows f i n) j (g (f (i + j)))
unfolding rows change_at
rows_change g f i zero j l = absurd (omega arith)
rows_change g f i (suc n) zero l = ap (λ (k : ℕ). g (f k) ∷ rows f (suc i) n) (sym (add-zero i))
rows_change g f i (suc n) (suc j) l =
    ap (f i ∷◌) (rows_change g f (suc i) n j (omega arith) ∙ ap (λ (k : ℕ). set (rows f (suc i) n) j (g (f k))) (omega arith))

pub change_none : {A : Type 0} (i : ℕ) (xs : List A) → change_at (λ x. x) i xs ≡ xs
unfolding change_at
change_none i [] = refl
change_none zero (x ∷ xs) = refl
change_none (suc i) (x ∷ xs) = ap (x ∷◌) (change_none i xs)

pub changed_twice : {A : Type 0} (f g : A → A) (i : ℕ) (xs : List A) → change_at g i (change_at f i xs) ≡ change_at (λ x. g (f x)) i xs
unfolding change_at
changed_twice f g i [] = refl
changed_twice f g zero (x ∷ xs) = refl
changed_twice f g (suc i) (x ∷ xs) = ap (x ∷◌) (changed_twice f g i xs)

module _ {A : Type 0} (p : A → Bool) (g : A → A) where
  abbrev Alters : ℕ → List A → Option ℕ → Type 0
  Alters i xs None = alter p g xs ≡ xs
  Alters i xs (Some j) = (i ≤ j) × (alter p g xs ≡ change_at g (j - i) xs)

  alters : (i : ℕ) (xs : List A) → Alters i xs (first_from p i xs)
  unfolding first_from alter change_at
  alters i [] = refl
  alters i (x ∷ xs) = go (p x) (first_from p (suc i) xs) refl (alters (suc i) xs)
    where
      go : (b : Bool) (r : Option ℕ) → p x ≡ b → Alters (suc i) xs r → Alters i (x ∷ xs) (pick b (Some i) r)
      go true r e h = (omega arith, let z : i - i ≡ 0 = omega arith in rw (e, alter, z))
      go false None e h = rw (e, alter) (ap (x ∷◌) h)
      go false (Some j) e h = (omega (arith, h.0), let z : j - i ≡ suc (j - suc i) = omega (arith, h.0) in rw (e, alter, z) (ap (x ∷◌) h.1))

  pub alter_found : (xs : List A) (j : ℕ) → first_from p 0 xs ≡ Some j → alter p g xs ≡ change_at g j xs
  alter_found xs j q = let z : j - 0 ≡ j = omega arith in (subst (Alters 0 xs) q (alters 0 xs)).1 ∙ ap (λ (k : ℕ). change_at g k xs) z
