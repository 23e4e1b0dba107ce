-- What the place of the first match says of each search, and how a loop comes by it; each law once for every table. Assumes nothing.
use Prim.Native.Nat.{ℕ, suc, ◌+◌, ◌<◌, ◌≤◌}
use mathlib.Core.Path.{◌≡◌, refl, sym, ap, ◌∙◌}
use mathlib.Core.Bool.{Bool, true, false, not, cond}
use mathlib.Core.List.{List, [], ◌∷◌, ◌++◌, map, reverse, reverse-append, reverse-reverse}
use mathlib.Core.Option.{Option, none, some}
use native.Mathlib.Omega.{arith}
use native.Mathlib.Nat.{le_of_suc-le-suc}
use lib.Dec.{ltb}
use lib.ListN.{length, get_or, set, drop, take, length-map}
use borrow.Author.Tests.{ltb-true, ltb-false}
use Rattle.std.specs.Prelude as code
use Rattle.std.specs.Prelude.{Some, None, position, filter}
use Rattle.std.specs.List.{position_or_len, list_any, find}
use Rattle.rules.specs.Lists.{first, any, keep, alter}
use Rattle.laws.proofs.Tests.{by_bool}
use Rattle.plain_words.specs.Places.{firsts, place}
use Rattle.plain_words.proofs.Firsts.{firsts_next, firsts_done}

-- a loop upward: so far nothing matched
module _ {A B : Type 0} (f : A → B) (d : A) (p : B → Bool) (xs : List A) (n : ℕ) where
  pub place_done : (i : ℕ) → i ≤ n → n ≤ i → place p (firsts f xs n) ≡ i + place p (drop i (firsts f xs n)) → place p (firsts f xs n) ≡ n
  unfolding place
  place_done i a b e = e ∙ ap (λ (l : List B). i + place p l) (firsts_done f xs n i b) ∙ omega arith

  pub place_here : (i : ℕ) → n ≤ length xs → i < n → place p (firsts f xs n) ≡ i + place p (drop i (firsts f xs n)) → p (f (get_or xs i d)) ≡ true
      → place p (firsts f xs n) ≡ i
  unfolding place
  place_here i l h e t = e ∙ ap (λ (l : List B). i + place p l) (firsts_next f d xs n i l h) ∙ rw (t, place) (omega arith)

  pub place_next : (i : ℕ) → n ≤ length xs → i < n → place p (firsts f xs n) ≡ i + place p (drop i (firsts f xs n)) → p (f (get_or xs i d)) ≡ false
      → place p (firsts f xs n) ≡ i + 1 + place p (drop (i + 1) (firsts f xs n))
  unfolding place
  place_next i l h e t = e ∙ ap (λ (l : List B). i + place p l) (firsts_next f d xs n i l h) ∙ rw (t, place) (omega arith)

-- the position of the first match, in the library's words
module _ {A : Type 0} (p : A → Bool) where
  -- no place is past the end
  pub place_most : (xs : List A) → place p xs ≤ length xs
  unfolding place
  place_most [] = omega arith
  place_most (x ∷ xs) =
      let h = place_most xs in
      by_bool (p x) (λ q. rw (q, place) (omega arith)) (λ q. rw (q, place) (omega arith))

  place_is : (xs : List A) → position_or_len p xs ≡ place p xs
  unfolding place
  place_is [] = refl
  place_is (x ∷ xs) =
      let h = place_is xs in
      by_bool (p x) (λ q. rw (q, place)) (λ q. rw (q, place) (omega arith))

  pub position_here : (xs : List A) (i : ℕ) → position p xs ≡ Some i → (i ≡ place p xs) × (i < length xs)
  position_here xs i e =
      by_bool (ltb (position_or_len p xs) (length xs))
      (λ q. let s : Some (position_or_len p xs) ≡ Some i = rw q at e in let k : i ≡ position_or_len p xs = cc in
      (k ∙ place_is xs, omega (arith, k, ltb-true (position_or_len p xs) (length xs) q)))
      (λ q. let s : None ≡ Some i = rw q at e in absurd cc)

  pub position_none : (xs : List A) → position p xs ≡ None → length xs ≤ place p xs
  position_none xs e =
      by_bool (ltb (position_or_len p xs) (length xs))
      (λ q. let s : Some (position_or_len p xs) ≡ None = rw q at e in absurd cc)
      (λ q. omega (arith, place_is xs, ltb-false (position_or_len p xs) (length xs) q))

module _ {A B : Type 0} (f : A → B) (p : B → Bool) where
  prefix_map : (xs : List A) → position_or_len (λ x. p (f x)) xs ≡ position_or_len p (map f xs)
  prefix_map [] = refl
  prefix_map (x ∷ xs) = ap (λ (m : ℕ). cond (not (p (f x))) (1 + m) 0) (prefix_map xs)

  pub position_firsts : (xs : List A) (n : ℕ) → position (λ x. p (f x)) (take n xs) ≡ position p (firsts f xs n)
  unfolding firsts
  position_firsts xs n = rw (prefix_map (take n xs), length-map (take n xs) f)

  -- and those that match, in the library's words
  kept_map : (xs : List A) → map f (filter (λ x. p (f x)) xs) ≡ keep p (map f xs)
  unfolding keep
  kept_map [] = refl
  kept_map (x ∷ xs) = by_bool (p (f x)) (λ q. rw (q, keep) (ap (f x ∷◌) (kept_map xs))) (λ q. rw (q, keep) (kept_map xs))

  pub kept_firsts : (xs : List A) (n : ℕ) → length (filter (λ x. p (f x)) (take n xs)) ≡ length (keep p (firsts f xs n))
  unfolding firsts
  kept_firsts xs n = sym (length-map (filter (λ x. p (f x)) (take n xs)) f) ∙ ap length (kept_map (take n xs))

-- whether one matches, and the first that does
module _ {A B : Type 0} (f : A → B) where
  abbrev pub meant : code.Option A → Option B
  meant None = none
  meant (Some x) = some (f x)

  module _ (p : B → Bool) where
    any_map : (xs : List A) → list_any (λ x. p (f x)) xs ≡ any p (map f xs)
    unfolding any
    any_map [] = refl
    any_map (x ∷ xs) = by_bool (p (f x)) (λ q. rw (q, any)) (λ q. rw (q, any) (any_map xs))

    pub any_firsts : (xs : List A) (n : ℕ) → list_any (λ x. p (f x)) (take n xs) ≡ any p (firsts f xs n)
    unfolding firsts
    any_firsts xs n = any_map (take n xs)

    find_map : (xs : List A) → meant (find (λ x. p (f x)) xs) ≡ first p (map f xs)
    unfolding first
    find_map [] = refl
    find_map (x ∷ xs) = by_bool (p (f x)) (λ q. rw (q, first)) (λ q. rw (q, first) (find_map xs))

    pub find_firsts : (xs : List A) (n : ℕ) → meant (find (λ x. p (f x)) (take n xs)) ≡ first p (firsts f xs n)
    unfolding firsts
    find_firsts xs n = find_map (take n xs)

-- a fold from the end on: one more item, and all of them
module _ {A B : Type 0} (f : A → B) where
  pub back_more : (ys : List A) (x : A) → map f (reverse (ys ++ x ∷ [])) ≡ f x ∷ map f (reverse ys)
  back_more ys x = ap (map f) (reverse-append ys (x ∷ []))

  pub back_firsts : (xs : List A) (n : ℕ) → map f (reverse (reverse (take n xs))) ≡ firsts f xs n
  unfolding firsts
  back_firsts xs n = ap (map f) (reverse-reverse (take n xs))

-- what the place says
module _ {A : Type 0} (p : A → Bool) where
  pub any_at : (xs : List A) → place p xs < length xs → any p xs ≡ true
  unfolding place any
  any_at [] h = absurd (omega arith)
  any_at (x ∷ xs) h = by_bool (p x) (λ q. rw (q, any)) (λ q. rw (q, any) (any_at xs (le_of_suc-le-suc (rw (q, place) at h))))

  pub any_nowhere : (xs : List A) → length xs ≤ place p xs → any p xs ≡ false
  unfolding place any
  any_nowhere [] h = refl
  any_nowhere (x ∷ xs) h =
      by_bool (p x) (λ q. let k : suc (length xs) ≤ 0 = rw (q, place) at h in absurd (omega arith))
      (λ q. rw (q, any) (any_nowhere xs (le_of_suc-le-suc (rw (q, place) at h))))

  pub first_at : (d : A) (xs : List A) → place p xs < length xs → first p xs ≡ some (get_or xs (place p xs) d)
  unfolding place first
  first_at d [] h = absurd (omega arith)
  first_at d (x ∷ xs) h = by_bool (p x) (λ q. rw (q, first, place)) (λ q. rw (q, first, place) (first_at d xs (le_of_suc-le-suc (rw (q, place) at h))))

  pub first_nowhere : (xs : List A) → length xs ≤ place p xs → first p xs ≡ none
  unfolding place first
  first_nowhere [] h = refl
  first_nowhere (x ∷ xs) h =
      by_bool (p x) (λ q. let k : suc (length xs) ≤ 0 = rw (q, place) at h in absurd (omega arith))
      (λ q. rw (q, first) (first_nowhere xs (le_of_suc-le-suc (rw (q, place) at h))))

  pub alter_at : (g : A → A) (d : A) (xs : List A) → place p xs < length xs → alter p g xs ≡ set xs (place p xs) (g (get_or xs (place p xs) d))
  unfolding place alter
  alter_at g d [] h = absurd (omega arith)
  alter_at g d (x ∷ xs) h =
      by_bool (p x) (λ q. rw (q, alter, place)) (λ q. rw (q, alter, place) (ap (x ∷◌) (alter_at g d xs (le_of_suc-le-suc (rw (q, place) at h)))))

  pub alter_nowhere : (g : A → A) (xs : List A) → length xs ≤ place p xs → alter p g xs ≡ xs
  unfolding place alter
  alter_nowhere g [] h = refl
  alter_nowhere g (x ∷ xs) h =
      by_bool (p x) (λ q. let k : suc (length xs) ≤ 0 = rw (q, place) at h in absurd (omega arith))
      (λ q. rw (q, alter) (ap (x ∷◌) (alter_nowhere g xs (le_of_suc-le-suc (rw (q, place) at h)))))
