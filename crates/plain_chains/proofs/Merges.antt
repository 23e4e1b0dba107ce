-- A chain and the log, compared name by name: while they agree, what is left decides. Assumes nothing.
use Prim.Native.Nat.{ℕ, zero, suc, ◌+◌, ◌<◌, ◌≤◌}
use mathlib.Core.Path.{◌≡◌, refl, sym, ap, ◌∙◌}
use mathlib.Core.Bool.{Bool, true, false}
use mathlib.Core.List.{List, [], ◌∷◌}
use mathlib.Core.Option.{none, some, map}
use native.Mathlib.Omega.{arith}
use native.Mathlib.Nat.{le_of_suc-le-suc}
use native.Mathlib.Numerals.{add-one}
use lib.Dec.{eqb}
use borrow.Author.Tests.{eqb-true}
use lib.ListN.{length, get_or}
use Rattle.fields.specs.Names.{name_of}
use Rattle.fields.specs.declared.Name.{Name}
use Rattle.plain_words.specs.Places.{Within}
use Rattle.plain_words.proofs.Firsts.{firsts_long, firsts_at}
use Rattle.plain_tables.specs.Meaning.{names, room}
use Rattle.plain_tables.specs.declared.Names.{Names}
use Rattle.rules.specs.Inputs.{merge}
use Rattle.laws.proofs.Tests.{by_bool, no_bool}

-- the first k names of both are there and the same
pub agree : ℕ → List ℕ → List ℕ → Bool
agree zero a l = true
agree (suc k) [] l = false
agree (suc k) (b ∷ a) [] = false
agree (suc k) (b ∷ a) (c ∷ l) = elim (eqb b c) [ true ↦ agree k a l | false ↦ false ]

pub agree_none : (a l : List ℕ) → agree 0 a l ≡ true
unfolding agree
agree_none a l = refl

more : (k : ℕ) (a l : List ℕ) → agree k a l ≡ true → k < length a → k < length l → eqb (get_or a k 0) (get_or l k 0) ≡ true → agree (suc k) a l ≡ true
unfolding agree
more zero [] l e p q t = absurd (omega arith)
more zero (b ∷ a) [] e p q t = absurd (omega arith)
more zero (b ∷ a) (c ∷ l) e p q t = rw (t, agree)
more (suc k) [] l e p q t = absurd (omega arith)
more (suc k) (b ∷ a) [] e p q t = absurd (omega arith)
more (suc k) (b ∷ a) (c ∷ l) e p q t =
    by_bool (eqb b c) (λ f. rw (f, agree) (more k a l (rw (f, agree) at e) (le_of_suc-le-suc p) (le_of_suc-le-suc q) t))
    (λ f. no_bool (sym (rw (f, agree) at e)))

agree_more : (k : ℕ) (a l : List ℕ) → agree k a l ≡ true → k < length a → k < length l → eqb (get_or a k 0) (get_or l k 0) ≡ true → agree (k + 1) a l ≡ true
agree_more k a l e p q t = ap (λ (n : ℕ). agree n a l) (add-one k) ∙ more k a l e p q t

-- the chain ends first: the log stays
merge_short : (k : ℕ) (a l : List ℕ) → agree k a l ≡ true → length a ≤ k → some l ≡ merge a l
unfolding agree merge
merge_short zero [] l e p = refl
merge_short zero (b ∷ a) l e p = absurd (omega arith)
merge_short (suc k) [] l e p = refl
merge_short (suc k) (b ∷ a) [] e p = no_bool (sym e)
merge_short (suc k) (b ∷ a) (c ∷ l) e p =
    by_bool (eqb b c) (λ f. rw (f, merge) (ap (map (c ∷◌)) (merge_short k a l (rw (f, agree) at e) (le_of_suc-le-suc p))))
    (λ f. no_bool (sym (rw (f, agree) at e)))

-- the log ends first: the chain is the log now
merge_long : (k : ℕ) (a l : List ℕ) → agree k a l ≡ true → length l ≤ k → some a ≡ merge a l
unfolding agree merge
merge_long k [] [] e p = refl
merge_long zero [] (c ∷ l) e p = absurd (omega arith)
merge_long (suc k) [] (c ∷ l) e p = no_bool (sym e)
merge_long zero (b ∷ a) [] e p = refl
merge_long zero (b ∷ a) (c ∷ l) e p = absurd (omega arith)
merge_long (suc k) (b ∷ a) [] e p = no_bool (sym e)
merge_long (suc k) (b ∷ a) (c ∷ l) e p =
    by_bool (eqb b c)
    (λ f. rw (f, merge) (ap (λ (n : ℕ). some (n ∷ a)) (eqb-true b c f) ∙ ap (map (c ∷◌)) (merge_long k a l (rw (f, agree) at e) (le_of_suc-le-suc p))))
    (λ f. no_bool (sym (rw (f, agree) at e)))

-- they differ
merge_differs : (k : ℕ) (a l : List ℕ) → agree k a l ≡ true → k < length a → k < length l → eqb (get_or a k 0) (get_or l k 0) ≡ false → none ≡ merge a l
unfolding agree merge
merge_differs zero [] l e p q t = absurd (omega arith)
merge_differs zero (b ∷ a) [] e p q t = absurd (omega arith)
merge_differs zero (b ∷ a) (c ∷ l) e p q t = rw (t, merge)
merge_differs (suc k) [] l e p q t = absurd (omega arith)
merge_differs (suc k) (b ∷ a) [] e p q t = absurd (omega arith)
merge_differs (suc k) (b ∷ a) (c ∷ l) e p q t =
    by_bool (eqb b c) (λ f. rw (f, merge) (ap (map (c ∷◌)) (merge_differs k a l (rw (f, agree) at e) (le_of_suc-le-suc p) (le_of_suc-le-suc q) t)))
    (λ f. no_bool (sym (rw (f, agree) at e)))

-- ---- the same of names by value

module _ (t : Names) (w : Within room t.items t.count) where
  pub counted : length (names t) ≡ t.count
  unfolding names
  counted = firsts_long name_of t.items t.count (omega (arith, w.long, w.most))

  pub name_at_lem : (d : Name) (k : ℕ) → k < t.count → get_or (names t) k 0 ≡ name_of (get_or t.items k d)
  unfolding names
  name_at_lem d k h = firsts_at name_of d 0 t.items t.count k (omega (arith, w.long, w.most)) h

module _ (a l : Names) (v : Within room a.items a.count) (w : Within room l.items l.count) (k : ℕ) (e : agree k (names a) (names l) ≡ true) where
  pub stays : a.count ≤ k → some (names l) ≡ merge (names a) (names l)
  stays h = merge_short k (names a) (names l) e (omega (arith, counted a v))

  pub grows : l.count ≤ k → some (names a) ≡ merge (names a) (names l)
  grows h = merge_long k (names a) (names l) e (omega (arith, counted l w))

  module _ (c d : Name) (p : k < a.count) (q : k < l.count) where
    same_names : eqb (get_or (names a) k 0) (get_or (names l) k 0) ≡ eqb (name_of (get_or a.items k c)) (name_of (get_or l.items k d))
    same_names = rw (name_at_lem a v c k p, name_at_lem l w d k q)

    pub differs : eqb (name_of (get_or a.items k c)) (name_of (get_or l.items k d)) ≡ false → none ≡ merge (names a) (names l)
    differs t = merge_differs k (names a) (names l) e (omega (arith, counted a v)) (omega (arith, counted l w)) (same_names ∙ t)

    pub agrees : eqb (name_of (get_or a.items k c)) (name_of (get_or l.items k d)) ≡ true → agree (k + 1) (names a) (names l) ≡ true
    agrees t = agree_more k (names a) (names l) e (omega (arith, counted a v)) (omega (arith, counted l w)) (same_names ∙ t)
