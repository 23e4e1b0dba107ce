-- The searches of the rules' lists: all, any, first, keep, alter, sorted, distinct, said once over the predicate. Assumes nothing.
use mathlib.Core.Path.{◌≡◌, refl, sym, ap, ◌∙◌}
use Prim.Native.Nat.{ℕ, zero, suc, ◌≤◌, ◌<◌}
use native.Mathlib.Omega.{arith}
use mathlib.Core.Bool.{Bool, true, false, not, ◌&&◌}
use mathlib.Core.List.Memᴰ.{head as here}
use mathlib.Core.List.Memᴰ.{not-nil}
use mathlib.Core.List.Memᴰ.{tail as there}
use mathlib.Core.List.{List, [], ◌∷◌, ◌++◌, Memᴰ as Mem}
use lib.Dec.{leb}
use lib.ListN.{length, get_or, set}
use borrow.Author.Tests.{not-true}
use Rattle.rules.specs.Lists.{any, all, keep, alter, distinct, insert, sorted}
use Rattle.laws.proofs.Tests.{by_bool, no_bool}
use Rattle.laws.proofs.Truths.{and_2, both}
use Rattle.laws.proofs.Searches.{any_alter}
use Rattle.kept.specs.Said.{Each}

-- ---- a claim of each element, or of every member

module _ {A : Type 0} (P : A → Type 0) where
  pub mem_each : (xs : List A) → ((x : A) → Mem x xs → P x) → Each P xs
  mem_each [] f = tt
  mem_each (x ∷ xs) f = (f x (here refl), mem_each xs (λ y m. f y (there m)))

  pub each_mem : {x : A} {xs : List A} → Each P xs → Mem x xs → P x
  each_mem {xs = []} h m = elim m [ ]
  each_mem {xs = y ∷ ys} h (here e) = rw e h.0
  each_mem {xs = y ∷ ys} h (there m) = each_mem h.1 m

  pub each_append : (xs ys : List A) → Each P xs → Each P ys → Each P (xs ++ ys)
  each_append [] ys h k = k
  each_append (x ∷ xs) ys h k = (h.0, each_append xs ys h.1 k)

module _ {A : Type 0} (p : A → Bool) where
  -- ---- all

  pub all_mem : {x : A} {xs : List A} → all p xs ≡ true → Mem x xs → p x ≡ true
  unfolding all
  all_mem {xs = []} h m = elim m [ ]
  all_mem {xs = y ∷ ys} h (here e) = ap p e ∙ (and_2 (p y) (all p ys) h).0
  all_mem {xs = y ∷ ys} h (there m) = all_mem (and_2 (p y) (all p ys) h).1 m

  pub all_last : (xs : List A) (y : A) → all p xs ≡ true → p y ≡ true → all p (xs ++ y ∷ []) ≡ true
  unfolding all
  all_last [] y h k = both k refl
  all_last (x ∷ xs) y h k = let t = and_2 (p x) (all p xs) h in both t.0 (all_last xs y t.1 k)

  pub all_weaken : (q : A → Bool) → ((x : A) → p x ≡ true → q x ≡ true) → (xs : List A) → all p xs ≡ true → all q xs ≡ true
  unfolding all
  all_weaken q f [] h = refl
  all_weaken q f (x ∷ xs) h = let t = and_2 (p x) (all p xs) h in both (f x t.0) (all_weaken q f xs t.1)

  pub all_alter : (q : A → Bool) (f : A → A) → ((x : A) → p x ≡ true → p (f x) ≡ true) → (xs : List A) → all p xs ≡ true
      → all p (alter q f xs) ≡ true
  unfolding all alter
  all_alter q f k [] h = refl
  all_alter q f k (x ∷ xs) h =
      let t = and_2 (p x) (all p xs) h in
      by_bool (q x) (λ e. rw (e, alter) (both (k x t.0) t.1)) (λ e. rw (e, alter) (both t.0 (all_alter q f k xs t.1)))

  pub all_set : (xs : List A) (i : ℕ) (x : A) → all p xs ≡ true → p x ≡ true → all p (set xs i x) ≡ true
  unfolding all
  all_set [] i x h k = refl
  all_set (y ∷ ys) zero x h k = both k (and_2 (p y) (all p ys) h).1
  all_set (y ∷ ys) (suc i) x h k = let t = and_2 (p y) (all p ys) h in both t.0 (all_set ys i x t.1 k)

  pub all_get_d : (xs : List A) (i : ℕ) (d : A) → all p xs ≡ true → p d ≡ true → p (get_or xs i d) ≡ true
  unfolding all
  all_get_d [] i d h k = k
  all_get_d (y ∷ ys) zero d h k = (and_2 (p y) (all p ys) h).0
  all_get_d (y ∷ ys) (suc i) d h k = all_get_d ys i d (and_2 (p y) (all p ys) h).1 k

  -- ---- any, first

  -- the one that any found
  pub any_find : (xs : List A) → any p xs ≡ true → (x : A) × Mem x xs × (p x ≡ true)
  unfolding any
  any_find [] h = no_bool (sym h)
  any_find (y ∷ ys) h =
      by_bool (p y) (λ q. (y, here refl, q)) (λ q. let t = any_find ys (rw (q, any) at h) in (t.0, there t.1, t.2))

  pub any_append : (xs ys : List A) → any p xs ≡ true → any p (xs ++ ys) ≡ true
  unfolding any
  any_append [] ys h = no_bool (sym h)
  any_append (x ∷ xs) ys h = by_bool (p x) (λ q. rw (q, any)) (λ q. rw (q, any) (any_append xs ys (rw (q, any) at h)))

  pub any_last : (xs : List A) (y : A) → any p xs ≡ false → p y ≡ false → any p (xs ++ y ∷ []) ≡ false
  unfolding any
  any_last [] y h k = rw (k, any)
  any_last (x ∷ xs) y h k = by_bool (p x) (λ q. no_bool (rw (q, any) at h)) (λ q. rw (q, any) (any_last xs y (rw (q, any) at h) k))

  pub any_cong : (q : A → Bool) → ((x : A) → p x ≡ q x) → (xs : List A) → any p xs ≡ any q xs
  unfolding any
  any_cong q f [] = refl
  any_cong q f (x ∷ xs) = by_bool (q x) (λ e. rw (e, any, f x ∙ e)) (λ e. rw (e, any, f x ∙ e) (any_cong q f xs))

  -- ---- keep

  pub keep_length : (xs : List A) → length (keep p xs) ≤ length xs
  unfolding keep
  keep_length [] = omega arith
  keep_length (x ∷ xs) = let h = keep_length xs in by_bool (p x) (λ q. rw (q, keep) (omega arith)) (λ q. rw (q, keep) (omega arith))

-- a weaker test keeps no fewer, and one more where some element passes it alone
module _ {A : Type 0} (p q : A → Bool) (f : (x : A) → p x ≡ true → q x ≡ true) where
  pub keep_fewer : (xs : List A) → length (keep p xs) ≤ length (keep q xs)
  unfolding keep
  keep_fewer [] = omega arith
  keep_fewer (x ∷ xs) =
      let h = keep_fewer xs in
      by_bool (p x) (λ a. rw (a, f x a, keep) (omega arith))
      (λ a. by_bool (q x) (λ b. rw (a, b, keep) (omega arith)) (λ b. rw (a, b, keep) (omega arith)))

  pub keep_fewer_by : {x : A} (xs : List A) → Mem x xs → p x ≡ false → q x ≡ true → length (keep p xs) < length (keep q xs)
  unfolding keep
  keep_fewer_by [] m a b = absurd (not-nil m)
  keep_fewer_by (y ∷ ys) (here e) a b = let h = keep_fewer ys in rw (ap p (sym e) ∙ a, ap q (sym e) ∙ b, keep) (omega arith)
  keep_fewer_by (y ∷ ys) (there m) a b =
      let h = keep_fewer_by ys m a b in
      by_bool (p y) (λ c. rw (c, f y c, keep) (omega arith))
      (λ c. by_bool (q y) (λ d. rw (c, d, keep) (omega arith)) (λ d. rw (c, d, keep) (omega arith)))

-- ---- in order

module _ {A : Type 0} (key : A → ℕ) where
  insert_length : (y : A) (ys : List A) → length (insert key y ys) ≡ suc (length ys)
  unfolding insert
  insert_length y [] = refl
  insert_length y (z ∷ zs) = by_bool (leb (key y) (key z)) (λ q. rw (q, insert)) (λ q. rw (q, insert) (ap suc (insert_length y zs)))

  pub sorted_length : (xs : List A) → length (sorted key xs) ≡ length xs
  unfolding sorted
  sorted_length [] = refl
  sorted_length (x ∷ xs) = insert_length x (sorted key xs) ∙ ap suc (sorted_length xs)

-- ---- no two the same

module _ {A : Type 0} (same : A → A → Bool) where
  pub distinct_append : ((x y : A) → same x y ≡ same y x) → (xs : List A) (y : A) → distinct same xs ≡ true → any (same y) xs ≡ false
      → distinct same (xs ++ y ∷ []) ≡ true
  unfolding distinct any
  distinct_append s [] y h n = refl
  distinct_append s (x ∷ xs) y h n =
      let t = and_2 (not (any (same x) xs)) (distinct same xs) h in
      by_bool (same y x) (λ q. no_bool (rw (q, any) at n))
      (λ q.
      let a = any_last (same x) xs y (not-true (any (same x) xs) t.0) (s x y ∙ q) in
      rw a (distinct_append s xs y t.1 (rw (q, any) at n)))

  -- what doesn't tell two apart may be changed
  pub distinct_alter : (q : A → Bool) (f : A → A) → ((x y : A) → same (f x) y ≡ same x y) → ((x y : A) → same x (f y) ≡ same x y)
      → (xs : List A) → distinct same (alter q f xs) ≡ distinct same xs
  unfolding distinct alter
  distinct_alter q f l r [] = refl
  distinct_alter q f l r (x ∷ xs) =
      by_bool (q x) (λ e. rw (e, alter) (ap (λ (b : Bool). not b && distinct same xs) (any_cong (same (f x)) (same x) (l x) xs)))
      (λ e. rw (e, alter, any_alter (same x) q f (r x) xs, distinct_alter q f l r xs))
