-- A table: an array with the count of its items. What a search of it says, and what a change leaves; each law once for every table.
-- Assumes nothing.
use Prim.Native.Nat.{ℕ, ◌+◌, ◌<◌, ◌≤◌}
use mathlib.Core.Path.{◌≡◌, refl, sym, ap, ◌∙◌}
use mathlib.Core.Bool.{Bool, true, false}
use mathlib.Core.List.{List}
use mathlib.Core.Option.{none, some}
use native.Mathlib.Omega.{arith}
use lib.ListN.{length, get_or, set, length-set}
use Rattle.std.specs.Prelude as code
use Rattle.std.specs.Prelude.{Some, None, is_some, unwrap_or, position}
use Rattle.rules.specs.Lists.{any, first, alter}
use Rattle.plain_words.specs.Places.{firsts, Within, place}
use Rattle.plain_words.proofs.Firsts.{firsts_long, firsts_at, firsts_set}
use Rattle.plain_words.proofs.Searches.{place_most, position_here, position_none, any_at, any_nowhere, first_at, first_nowhere, alter_at, alter_nowhere}

-- by whether there is a value
by_option : {A : Type 0} {P : Type 0} (o : code.Option A) → ((x : A) → o ≡ Some x → P) → (o ≡ None → P) → P
by_option None s n = n refl
by_option (Some x) s n = s x refl

-- a table keeps its room where an item changes, and where one is added
module _ {A : Type 0} (room : ℕ) (xs : List A) (n : ℕ) (w : Within room xs n) (i : ℕ) (x : A) where
  pub within_set : Within room (set xs i x) n
  within_set = record { long = length-set xs i x ∙ w.long; most = w.most }

  pub within_more : n < room → Within room (set xs i x) (n + 1)
  within_more h = record { long = length-set xs i x ∙ w.long; most = omega arith }

module _ {A B : Type 0} (f : A → B) (d : A) (room : ℕ) (xs : List A) (n : ℕ) (w : Within room xs n) where
  pub long : n ≤ length xs
  long = omega (arith, w.long, w.most)

  pub counted : length (firsts f xs n) ≡ n
  counted = firsts_long f xs n long

  module _ (p : B → Bool) where
    -- the place of the first that matches, or the end of the table
    pub place_or : (o : code.Option ℕ) → o ≡ position p (firsts f xs n) → unwrap_or o n ≡ place p (firsts f xs n)
    place_or None e = omega (arith, counted, place_most p (firsts f xs n), position_none p (firsts f xs n) (sym e))
    place_or (Some i) e = (position_here p (firsts f xs n) i (sym e)).0

    -- whether one matches
    pub is_any : is_some (position p (firsts f xs n)) ≡ any p (firsts f xs n)
    is_any =
        by_option (position p (firsts f xs n))
        (λ i e. rw e (sym (any_at p (firsts f xs n) (let k = position_here p (firsts f xs n) i e in omega (arith, k.0, k.1)))))
        (λ e. rw e (sym (any_nowhere p (firsts f xs n) (position_none p (firsts f xs n) e))))

    -- where one was found
    module _ (i : ℕ) (e : position p (firsts f xs n) ≡ Some i) where
      pub below : i < n
      below = omega (arith, counted, (position_here p (firsts f xs n) i e).1)

      pub at_place : i ≡ place p (firsts f xs n)
      at_place = (position_here p (firsts f xs n) i e).0

      pub inside : place p (firsts f xs n) < length (firsts f xs n)
      inside = omega (arith, counted, below, at_place)

      pub item : get_or (firsts f xs n) (place p (firsts f xs n)) (f d) ≡ f (get_or xs i d)
      item = ap (λ (j : ℕ). get_or (firsts f xs n) j (f d)) (sym at_place) ∙ firsts_at f d (f d) xs n i long below

      pub changed : (x : A) (y : B) → f x ≡ y → firsts f (set xs i x) n ≡ set (firsts f xs n) (place p (firsts f xs n)) y
      changed x y k =
          firsts_set f xs n i x long below ∙ ap (set (firsts f xs n) i) k ∙ ap (λ (j : ℕ). set (firsts f xs n) j y) at_place

      pub found_first : some (f (get_or xs i d)) ≡ first p (firsts f xs n)
      found_first = sym (first_at p (f d) (firsts f xs n) inside ∙ ap some item)

      pub altered : (g : B → B) (x : A) → f x ≡ g (f (get_or xs i d)) → firsts f (set xs i x) n ≡ alter p g (firsts f xs n)
      altered g x k =
          changed x (g (get_or (firsts f xs n) (place p (firsts f xs n)) (f d))) (k ∙ ap g (sym item)) ∙ sym (alter_at p g (f d) (firsts f xs n) inside)

    -- where none was
    module _ (e : position p (firsts f xs n) ≡ None) where
      pub outside : length (firsts f xs n) ≤ place p (firsts f xs n)
      outside = position_none p (firsts f xs n) e

      pub found_none : none ≡ first p (firsts f xs n)
      found_none = sym (first_nowhere p (firsts f xs n) outside)

      pub unaltered : (g : B → B) → firsts f xs n ≡ alter p g (firsts f xs n)
      unaltered g = sym (alter_nowhere p g (firsts f xs n) outside)
