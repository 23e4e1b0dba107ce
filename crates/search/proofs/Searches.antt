-- A search of a table, row by row, and what its answer says of the list: each law once for every table and test. Assumes nothing.
use Prim.Native.Nat.{ℕ, zero, suc, ◌+◌, ◌-◌}
use mathlib.Core.Path.{◌≡◌, refl, ap, ◌∙◌, subst}
use mathlib.Core.Bool.{Bool, true, false}
use mathlib.Core.List.{List, [], ◌∷◌}
use mathlib.Core.Option.{Option}
use native.Mathlib.Omega.{arith}
use Rattle.rules.specs.Lists.{first, any}
use Rattle.laws.proofs.Tests.{by_bool}
use Rattle.store.specs.Decode.{rows}
use Rattle.std.specs.Prelude.{Option as Maybe, Some, None, is_some}
use Rattle.store.proofs.Rows.{rows_whole}
use Rattle.store.specs.Searches.{first_from}
use Rattle.search.specs.Finds.{Finds}

found_any : {A : Type 0} (p : A → Bool) (i : ℕ) (xs : List A) → is_some (first_from p i xs) ≡ any p xs
unfolding any first_from
found_any p i [] = refl
found_any p i (x ∷ xs) = by_bool (p x) (λ q. rw (q, any)) (λ q. rw (q, any) (found_any p (suc i) xs))

-- whether a search found one
pub any_found : {A : Type 0} (f : ℕ → A) (p : A → Bool) (n : ℕ) {r : Maybe ℕ} → r ≡ first_from p 0 (rows f 0 (n - 0)) → is_some r ≡ any p (rows f 0 n)
any_found f p n e = ap is_some (e ∙ ap (first_from p 0) (rows_whole f n 0 (omega arith))) ∙ found_any p 0 (rows f 0 n)

-- what was found is the first that matches
module _ {A : Type 0} (f : ℕ → A) (p : A → Bool) where
  pub found_first : (i n : ℕ) → Finds f (i + n) (first p (rows f i n)) (first_from p i (rows f i n))
  unfolding rows first first_from
  found_first i zero = record { is = refl; inside = tt }
  found_first i (suc n) = by_bool (p (f i)) (λ q. rw q (record { is = refl; inside = omega arith })) (λ q. rw (q, first) (more (found_first (suc i) n)))
    where
      same : suc i + n ≡ i + suc n
      same = omega arith

      more : {o : Option A} {r : Maybe ℕ} → Finds f (suc i + n) o r → Finds f (i + suc n) o r
      more {o} {r} k = subst (λ (m : ℕ). Finds f m o r) same k
