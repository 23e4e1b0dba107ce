-- The first items of an array: as a loop meets them, one more, one changed; each law once for every table. Assumes nothing.
use Prim.Native.Nat.{ℕ, zero, suc, ◌+◌, ◌-◌, ◌<◌, ◌≤◌}
use mathlib.Core.Path.{◌≡◌, refl, sym, ap, ◌∙◌}
use mathlib.Core.List.{List, [], ◌∷◌, ◌++◌, map}
use native.Mathlib.Omega.{arith}
use native.Mathlib.Nat.{le_of_suc-le-suc}
use native.Mathlib.Numerals.{add-one}
use lib.ListN.{length, get_or, set, take, drop}
use lib.Seq.{drop-nil, take-nil}
use Rattle.plain_words.specs.Places.{firsts}

module _ {A B : Type 0} (f : A → B) where
  pub firsts_long : (xs : List A) (n : ℕ) → n ≤ length xs → length (firsts f xs n) ≡ n
  unfolding firsts
  firsts_long [] zero h = refl
  firsts_long [] (suc n) h = absurd (omega arith)
  firsts_long (x ∷ xs) zero h = refl
  firsts_long (x ∷ xs) (suc n) h = ap suc (firsts_long xs n (le_of_suc-le-suc h))

  -- from a place on, as the first items from there
  pub firsts_drop : (xs : List A) (n i : ℕ) → drop i (firsts f xs n) ≡ map f (take (n - i) (drop i xs))
  unfolding firsts
  firsts_drop xs n zero = let e : n ≡ n - 0 = omega arith in ap (λ (j : ℕ). map f (take j xs)) e
  firsts_drop [] n (suc i) = ap (λ (l : List A). drop (suc i) (map f l)) (take-nil n) ∙ sym (ap (map f) (take-nil (n - suc i)))
  firsts_drop (x ∷ xs) zero (suc i) = let e : 0 ≡ 0 - suc i = omega arith in ap (λ (j : ℕ). map f (take j (drop i xs))) e
  firsts_drop (x ∷ xs) (suc n) (suc i) = let e : n - i ≡ suc n - suc i = omega arith in firsts_drop xs n i ∙ ap (λ (j : ℕ). map f (take j (drop i xs))) e

  -- past the end nothing is left
  pub firsts_done : (xs : List A) (n i : ℕ) → n ≤ i → drop i (firsts f xs n) ≡ []
  unfolding firsts
  firsts_done xs zero i h = drop-nil i
  firsts_done [] (suc n) i h = drop-nil i
  firsts_done (x ∷ xs) (suc n) zero h = absurd (omega arith)
  firsts_done (x ∷ xs) (suc n) (suc i) h = firsts_done xs n i (le_of_suc-le-suc h)

  -- from a place on: the item there, then the rest
  next : (d : A) (xs : List A) (n i : ℕ) → n ≤ length xs → i < n → drop i (firsts f xs n) ≡ f (get_or xs i d) ∷ drop (suc i) (firsts f xs n)
  unfolding firsts
  next d [] n i h k = absurd (omega arith)
  next d (x ∷ xs) zero i h k = absurd (omega arith)
  next d (x ∷ xs) (suc n) zero h k = refl
  next d (x ∷ xs) (suc n) (suc i) h k = next d xs n i (le_of_suc-le-suc h) (le_of_suc-le-suc k)

  pub firsts_next : (d : A) (xs : List A) (n i : ℕ) → n ≤ length xs → i < n → drop i (firsts f xs n) ≡ f (get_or xs i d) ∷ drop (i + 1) (firsts f xs n)
  firsts_next d xs n i h k = next d xs n i h k ∙ ap (λ (j : ℕ). f (get_or xs i d) ∷ drop j (firsts f xs n)) (sym (add-one i))

  -- as a loop downward meets them: the item before a place, then the rest
  pub firsts_back : (d : A) (xs : List A) (n i : ℕ) → n ≤ length xs → 0 < i → i ≤ n → drop (i - 1) (firsts f xs n) ≡ f (get_or xs (i - 1) d) ∷ drop i (firsts f xs n)
  firsts_back d xs n i h k l =
      let e : i - 1 + 1 ≡ i = omega arith in
      firsts_next d xs n (i - 1) h (omega arith) ∙ ap (λ (j : ℕ). f (get_or xs (i - 1) d) ∷ drop j (firsts f xs n)) e

  -- the item at a place
  pub firsts_at : (d : A) (e : B) (xs : List A) (n i : ℕ) → n ≤ length xs → i < n → get_or (firsts f xs n) i e ≡ f (get_or xs i d)
  unfolding firsts
  firsts_at d e [] n i h k = absurd (omega arith)
  firsts_at d e (x ∷ xs) zero i h k = absurd (omega arith)
  firsts_at d e (x ∷ xs) (suc n) zero h k = refl
  firsts_at d e (x ∷ xs) (suc n) (suc i) h k = firsts_at d e xs n i (le_of_suc-le-suc h) (le_of_suc-le-suc k)

  -- one more
  more : (xs : List A) (n : ℕ) (x : A) → n < length xs → firsts f (set xs n x) (suc n) ≡ firsts f xs n ++ f x ∷ []
  unfolding firsts
  more [] n x h = absurd (omega arith)
  more (y ∷ ys) zero x h = refl
  more (y ∷ ys) (suc n) x h = ap (f y ∷◌) (more ys n x (le_of_suc-le-suc h))

  pub firsts_more : (xs : List A) (n : ℕ) (x : A) → n < length xs → firsts f (set xs n x) (n + 1) ≡ firsts f xs n ++ f x ∷ []
  firsts_more xs n x h = ap (firsts f (set xs n x)) (add-one n) ∙ more xs n x h

  -- one changed
  pub firsts_set : (xs : List A) (n i : ℕ) (x : A) → n ≤ length xs → i < n → firsts f (set xs i x) n ≡ set (firsts f xs n) i (f x)
  unfolding firsts
  firsts_set [] n i x h k = absurd (omega arith)
  firsts_set (y ∷ ys) zero i x h k = absurd (omega arith)
  firsts_set (y ∷ ys) (suc n) zero x h k = refl
  firsts_set (y ∷ ys) (suc n) (suc i) x h k = ap (f y ∷◌) (firsts_set ys n i x (le_of_suc-le-suc h) (le_of_suc-le-suc k))
