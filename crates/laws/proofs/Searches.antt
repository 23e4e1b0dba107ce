-- What searches find in a list, whatever is in it, and what holds of all its elements. Assumes nothing.
use mathlib.Core.Path.{◌≡◌, subst, refl, sym, ap, ◌∙◌}
use Prim.Native.Nat.{ℕ}
use mathlib.Core.Bool.{Bool, true, false, ◌||◌}
use mathlib.Core.List.{List, [], ◌∷◌, ◌++◌, Memᴰ}
use mathlib.Core.Logic.{◌⊎◌, inl, inr}
use mathlib.Core.Option.{none, some, some-injective}
use lib.Dec.{leb}
use Rattle.rules.specs.Lists.{first, any, keep, alter, insert, sorted}
use Rattle.laws.proofs.Tests.{by_bool, no_some}

-- an element is the first or one of the rest
pub by_mem {ℓ} : {A : Type 0} {P : Type ℓ} {x z : A} {xs : List A} → Memᴰ z (x ∷ xs) → (z ≡ x → P) → (Memᴰ z xs → P) → P
by_mem (mathlib.Core.List.Memᴰ.head e) f g = f e
by_mem (mathlib.Core.List.Memᴰ.tail m) f g = g m

module _ {A : Type 0} (p : A → Bool) where
  pub any_append : (xs : List A) (y : A) → any p (xs ++ y ∷ []) ≡ (any p xs || p y)
  unfolding any
  any_append [] y = by_bool (p y) (λ q. rw (q, any)) (λ q. rw (q, any))
  any_append (x ∷ xs) y = by_bool (p x) (λ q. rw (q, any)) (λ q. rw (q, any) (any_append xs y))

  pub any_alter : (q : A → Bool) (f : A → A) → ((x : A) → p (f x) ≡ p x) → (xs : List A) → any p (alter q f xs) ≡ any p xs
  unfolding any alter
  any_alter q f h [] = refl
  any_alter q f h (x ∷ xs) =
      by_bool (q x) (λ e. rw (e, alter, any, h x))
      (λ e. by_bool (p x) (λ r. rw (e, alter, r, any)) (λ r. rw (e, alter, r, any) (any_alter q f h xs)))

  pub any_insert : (key : A → ℕ) (x : A) (ys : List A) → any p (insert key x ys) ≡ (p x || any p ys)
  unfolding any insert
  any_insert key x [] = by_bool (p x) (λ q. rw (q, any)) (λ q. rw (q, any))
  any_insert key x (y ∷ ys) =
      by_bool (leb (key x) (key y)) (λ k. rw (k, insert) (by_bool (p x) (λ q. rw (q, any)) (λ q. rw (q, any)))) λ k.
      rw (k, insert)
      (by_bool (p y) (λ r. by_bool (p x) (λ q. rw (r, any, q)) (λ q. rw (r, any, q))) (λ r. rw (r, any) (any_insert key x ys)))

  pub any_sorted : (key : A → ℕ) (xs : List A) → any p (sorted key xs) ≡ any p xs
  unfolding any sorted
  any_sorted key [] = refl
  any_sorted key (x ∷ xs) =
      any_insert key x (sorted key xs) ∙ by_bool (p x) (λ q. rw (q, any)) (λ q. rw (q, any) (any_sorted key xs))

  pub any_mem : (xs : List A) (z : A) → Memᴰ z xs → p z ≡ true → any p xs ≡ true
  unfolding any
  any_mem [] z m h = elim m [ ]
  any_mem (x ∷ xs) z (mathlib.Core.List.Memᴰ.head e) h = rw (ap p (sym e) ∙ h, any) refl
  any_mem (x ∷ xs) z (mathlib.Core.List.Memᴰ.tail m) h = by_bool (p x) (λ q. rw (q, any) refl) (λ q. rw (q, any) (any_mem xs z m h))

  pub first_any : (xs : List A) (z : A) → first p xs ≡ some z → (any p xs ≡ true) × (p z ≡ true)
  unfolding first any
  first_any [] z e = no_some e
  first_any (x ∷ xs) z e =
      by_bool (p x) (λ q. (rw (q, any), rw (← some-injective x z (rw (q, first) at e)) q))
      (λ q. rw (q, any) (first_any xs z (rw (q, first) at e)))

  pub first_append : (xs : List A) (y z : A) → first p (xs ++ y ∷ []) ≡ some z
      → (first p xs ≡ some z) ⊎ ((first p xs ≡ none) × (p y ≡ true) × (z ≡ y))
  unfolding first
  first_append [] y z e =
      by_bool (p y) (λ q. inr (refl, q, sym (some-injective y z (rw (q, first) at e)))) (λ q. no_some (rw (q, first) at e))
  first_append (x ∷ xs) y z e =
      by_bool (p x) (λ q. rw (q, first) (inl (rw (q, first) at e))) (λ q. rw (q, first) (first_append xs y z (rw (q, first) at e)))

  pub first_kept : (xs : List A) (y z : A) → first p xs ≡ some z → first p (xs ++ y ∷ []) ≡ some z
  unfolding first
  first_kept [] y z e = no_some e
  first_kept (x ∷ xs) y z e =
      by_bool (p x) (λ q. rw (q, first) (rw (q, first) at e)) (λ q. rw (q, first) (first_kept xs y z (rw (q, first) at e)))

  pub first_none : (xs : List A) → first p xs ≡ none → any p xs ≡ false
  unfolding first any
  first_none [] e = refl
  first_none (x ∷ xs) e =
      by_bool (p x) (λ q. no_some (sym (rw (q, first) at e))) (λ q. rw (q, any) (first_none xs (rw (q, first) at e)))

  pub mem_keep : (xs : List A) (z : A) → Memᴰ z (keep p xs) → Memᴰ z xs × (p z ≡ true)
  unfolding keep
  mem_keep [] z m = elim m [ ]
  mem_keep (x ∷ xs) z m =
      let rest : Memᴰ z (keep p xs) → Memᴰ z (x ∷ xs) × (p z ≡ true) = λ t. let r = mem_keep xs z t in (mathlib.Core.List.Memᴰ.tail r.0, r.1) in
      by_bool (p x) (λ q. by_mem (rw (q, keep) at m) (λ e. (mathlib.Core.List.Memᴰ.head e, ap p e ∙ q)) rest) (λ q. rest (rw (q, keep) at m))

  pub keep_mem : (xs : List A) (z : A) → Memᴰ z xs → p z ≡ true → Memᴰ z (keep p xs)
  unfolding keep
  keep_mem [] z m h = elim m [ ]
  keep_mem (x ∷ xs) z (mathlib.Core.List.Memᴰ.head e) h = rw (ap p (sym e) ∙ h, keep) (mathlib.Core.List.Memᴰ.head e)
  keep_mem (x ∷ xs) z (mathlib.Core.List.Memᴰ.tail m) h =
      by_bool (p x) (λ q. rw (q, keep) (mathlib.Core.List.Memᴰ.tail (keep_mem xs z m h))) (λ q. rw (q, keep) (keep_mem xs z m h))

  pub first_mem : (xs : List A) (z : A) → first p xs ≡ some z → Memᴰ z xs
  unfolding first
  first_mem [] z e = no_some e
  first_mem (x ∷ xs) z e =
      by_bool (p x) (λ q. mathlib.Core.List.Memᴰ.head (sym (some-injective x z (rw (q, first) at e))))
      (λ q. mathlib.Core.List.Memᴰ.tail (first_mem xs z (rw (q, first) at e)))

module _ {A : Type 0} (key : A → ℕ) where
  pub mem_insert : (x : A) (ys : List A) (z : A) → Memᴰ z (insert key x ys) → Memᴰ z (x ∷ ys)
  unfolding insert
  mem_insert x [] z m = m
  mem_insert x (y ∷ ys) z m =
      by_bool (leb (key x) (key y)) (λ k. rw (k, insert) at m) λ k.
      by_mem (rw (k, insert) at m) (λ e. mathlib.Core.List.Memᴰ.tail (mathlib.Core.List.Memᴰ.head e))
      (λ t. by_mem (mem_insert x ys z t) (λ e. mathlib.Core.List.Memᴰ.head e) (λ u. mathlib.Core.List.Memᴰ.tail (mathlib.Core.List.Memᴰ.tail u)))

  pub mem_sorted : (xs : List A) (z : A) → Memᴰ z (sorted key xs) → Memᴰ z xs
  unfolding sorted
  mem_sorted [] z m = m
  mem_sorted (x ∷ xs) z m =
      by_mem (mem_insert x (sorted key xs) z m) (λ e. mathlib.Core.List.Memᴰ.head e) (λ t. mathlib.Core.List.Memᴰ.tail (mem_sorted xs z t))

  pub insert_mem : (x : A) (ys : List A) (z : A) → Memᴰ z (x ∷ ys) → Memᴰ z (insert key x ys)
  unfolding insert
  insert_mem x [] z m = m
  insert_mem x (y ∷ ys) z m =
      by_bool (leb (key x) (key y)) (λ k. rw (k, insert) m) λ k.
      rw (k, insert)
      (by_mem m (λ e. mathlib.Core.List.Memᴰ.tail (insert_mem x ys z (mathlib.Core.List.Memᴰ.head e)))
      (λ t. by_mem t (λ e. mathlib.Core.List.Memᴰ.head e) (λ u. mathlib.Core.List.Memᴰ.tail (insert_mem x ys z (mathlib.Core.List.Memᴰ.tail u)))))

  pub sorted_mem : (xs : List A) (z : A) → Memᴰ z xs → Memᴰ z (sorted key xs)
  unfolding sorted
  sorted_mem [] z m = elim m [ ]
  sorted_mem (x ∷ xs) z m =
      insert_mem x (sorted key xs) z (by_mem m (λ e. mathlib.Core.List.Memᴰ.head e) (λ t. mathlib.Core.List.Memᴰ.tail (sorted_mem xs z t)))

-- ---- for each of a list

module _ {A : Type 0} (P : A → Type 0) where
  abbrev pub All : List A → Type 0
  All [] = Unit {0}
  All (x ∷ xs) = P x × All xs

  pub all_append : (xs ys : List A) → All xs → All ys → All (xs ++ ys)
  all_append [] ys a b = b
  all_append (x ∷ xs) ys a b = (a.0, all_append xs ys a.1 b)

  pub all_split : (xs ys : List A) → All (xs ++ ys) → All xs × All ys
  all_split [] ys a = (tt, a)
  all_split (x ∷ xs) ys a = let r = all_split xs ys a.1 in ((a.0, r.0), r.1)

  pub all_of : (xs : List A) → All xs → (z : A) → Memᴰ z xs → P z
  all_of [] a z m = elim m [ ]
  all_of (x ∷ xs) a z (mathlib.Core.List.Memᴰ.head q) = subst P (sym q) a.0
  all_of (x ∷ xs) a z (mathlib.Core.List.Memᴰ.tail m) = all_of xs a.1 z m

  pub to_all_lem : (xs : List A) → ((z : A) → Memᴰ z xs → P z) → All xs
  to_all_lem [] f = tt
  to_all_lem (x ∷ xs) f = (f x (mathlib.Core.List.Memᴰ.head refl), to_all_lem xs (λ z m. f z (mathlib.Core.List.Memᴰ.tail m)))

  pub all_first : (q : A → Bool) (xs : List A) (y : A) → All xs → first q xs ≡ some y → P y
  all_first q xs y a e = all_of xs a y (first_mem q xs y e)

  pub all_alter : (q : A → Bool) (f : A → A) → ((x : A) → P x → P (f x)) → (xs : List A) → All xs → All (alter q f xs)
  unfolding alter
  all_alter q f h [] a = tt
  all_alter q f h (x ∷ xs) a =
      by_bool (q x) (λ k. rw (k, alter) (h x a.0, a.1)) (λ k. rw (k, alter) (a.0, all_alter q f h xs a.1))

pub all_map : {A : Type 0} (P Q : A → Type 0) → ((x : A) → P x → Q x) → (xs : List A) → All P xs → All Q xs
all_map P Q f [] a = tt
all_map P Q f (x ∷ xs) a = (f x a.0, all_map P Q f xs a.1)
