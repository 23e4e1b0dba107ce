-- The order in which chains join the log does not matter. Assumes nothing.
use Prim.Native.Nat.{ℕ}
use mathlib.Core.Path.{◌≡◌, refl, sym, ap, ◌∙◌}
use mathlib.Core.Bool.{Bool, true, false}
use mathlib.Core.List.{List, [], ◌∷◌}
use mathlib.Core.Option.{Option, none, some, map}
use lib.Dec.{eqb, leb}
use borrow.Author.Tests.{eqb-true, eqb-false, eq-eqb, ne_eqb}
use Rattle.rules.specs.Lists.{insert, sorted}
use Rattle.rules.specs.Words.{Statement}
use Rattle.rules.specs.Inputs.{chain, merge, commit, commits}
use Rattle.laws.proofs.Tests.{by_bool}

abbrev then : Option (List ℕ) → List ℕ → Option (List ℕ)
then o c = elim o [ none ↦ none | some l ↦ merge c l ]

eqb_sym : (x y : ℕ) (b : Bool) → eqb x y ≡ b → eqb y x ≡ b
eqb_sym x y true e = eq-eqb y x (sym (eqb-true x y e))
eqb_sym x y false e = ne_eqb y x (λ q. eqb-false x y e (sym q))

module _ (x z : ℕ) (a l : List ℕ) where
  merge_ne : eqb x z ≡ false → merge (x ∷ a) (z ∷ l) ≡ none
  unfolding merge
  merge_ne e = rw (e, merge)

  merge_eq : eqb x z ≡ true → merge (x ∷ a) (z ∷ l) ≡ map (z ∷◌) (merge a l)
  unfolding merge
  merge_eq e = rw (e, merge)

then_ne : (y z : ℕ) (b : List ℕ) (o : Option (List ℕ)) → eqb y z ≡ false → then (map (z ∷◌) o) (y ∷ b) ≡ none
then_ne y z b none e = refl
then_ne y z b (some l) e = merge_ne y z b l e

then_eq : (y z : ℕ) (b : List ℕ) (o : Option (List ℕ)) → eqb y z ≡ true → then (map (z ∷◌) o) (y ∷ b) ≡ map (z ∷◌) (then o b)
then_eq y z b none e = refl
then_eq y z b (some l) e = merge_eq y z b l e

then_nil : (o : Option (List ℕ)) → then o [] ≡ o
unfolding merge
then_nil none = refl
then_nil (some l) = refl

merge_nil : (a : List ℕ) → merge a [] ≡ some a
unfolding merge
merge_nil [] = refl
merge_nil (x ∷ a) = refl

merge_sym : (a b : List ℕ) → merge a b ≡ merge b a
unfolding merge
merge_sym [] b = sym (merge_nil b)
merge_sym (x ∷ a) [] = refl
merge_sym (x ∷ a) (y ∷ b) =
    by_bool (eqb x y)
    (λ e. merge_eq x y a b e ∙ ap (λ (n : ℕ). map (n ∷◌) (merge a b)) (sym (eqb-true x y e)) ∙ ap (map (x ∷◌)) (merge_sym a b) ∙ sym (merge_eq y x b a (eqb_sym x y true e)))
    (λ e. merge_ne x y a b e ∙ sym (merge_ne y x b a (eqb_sym x y false e)))

pub swap : (a b l : List ℕ) → then (merge a l) b ≡ then (merge b l) a
unfolding merge
swap [] b l = sym (then_nil (merge b l))
swap (x ∷ a) [] l = then_nil (merge (x ∷ a) l)
swap (x ∷ a) (y ∷ b) [] = merge_sym (y ∷ b) (x ∷ a)
swap (x ∷ a) (y ∷ b) (z ∷ l) =
    by_bool (eqb x z)
    (λ e. by_bool (eqb y z)
    (λ f. ap (λ (o : Option (List ℕ)). then o (y ∷ b)) (merge_eq x z a l e) ∙ then_eq y z b (merge a l) f ∙ ap (map (z ∷◌)) (swap a b l)
    ∙ sym (ap (λ (o : Option (List ℕ)). then o (x ∷ a)) (merge_eq y z b l f) ∙ then_eq x z a (merge b l) e))
    (λ f. ap (λ (o : Option (List ℕ)). then o (y ∷ b)) (merge_eq x z a l e) ∙ then_ne y z b (merge a l) f
    ∙ sym (ap (λ (o : Option (List ℕ)). then o (x ∷ a)) (merge_ne y z b l f))))
    (λ e. by_bool (eqb y z)
    (λ f. ap (λ (o : Option (List ℕ)). then o (y ∷ b)) (merge_ne x z a l e)
    ∙ sym (ap (λ (o : Option (List ℕ)). then o (x ∷ a)) (merge_eq y z b l f) ∙ then_ne x z a (merge b l) e))
    (λ f. ap (λ (o : Option (List ℕ)). then o (y ∷ b)) (merge_ne x z a l e)
    ∙ sym (ap (λ (o : Option (List ℕ)). then o (x ∷ a)) (merge_ne y z b l f))))

-- ---- the order of the due blocks

abbrev pub bind : Option (List ℕ) → (List ℕ → Option (List ℕ)) → Option (List ℕ)
bind none f = none
bind (some l) f = f l

module _ (xs : List Statement) where
  one : (x : Statement) (o c : Option (List ℕ)) → chain xs x ≡ c → bind o (commit xs x) ≡ elim c [ none ↦ o | some k ↦ then o k ]
  unfolding commit
  one x none none e = refl
  one x none (some k) e = refl
  one x (some l) none e = rw (e, commit)
  one x (some l) (some k) e = rw (e, commit)

  at_once : (x : Statement) (l : List ℕ) (c : Option (List ℕ)) → chain xs x ≡ c → commit xs x l ≡ elim c [ none ↦ some l | some k ↦ merge k l ]
  unfolding commit
  at_once x l c e = rw (e, commit)

  commit_swap : (x y : Statement) (l : List ℕ) → bind (commit xs x l) (commit xs y) ≡ bind (commit xs y l) (commit xs x)
  commit_swap x y l =
      go (chain xs x) (chain xs y) (at_once x l (chain xs x) refl) (at_once y l (chain xs y) refl) (λ o. one x o (chain xs x) refl) (λ o. one y o (chain xs y) refl)
    where
      go : (c d : Option (List ℕ)) → commit xs x l ≡ elim c [ none ↦ some l | some k ↦ merge k l ] → commit xs y l ≡ elim d [ none ↦ some l | some k ↦ merge k l ]
          → ((o : Option (List ℕ)) → bind o (commit xs x) ≡ elim c [ none ↦ o | some k ↦ then o k ]) → ((o : Option (List ℕ)) → bind o (commit xs y) ≡ elim d [ none ↦ o | some k ↦ then o k ])
          → bind (commit xs x l) (commit xs y) ≡ bind (commit xs y l) (commit xs x)
      go none none p q f g = g (commit xs x l) ∙ p ∙ sym q ∙ sym (f (commit xs y l))
      go none (some d) p q f g = ap (λ (o : Option (List ℕ)). bind o (commit xs y)) p ∙ g (some l) ∙ sym q ∙ sym (f (commit xs y l))
      go (some c) none p q f g = g (commit xs x l) ∙ p ∙ sym (f (some l)) ∙ sym (ap (λ (o : Option (List ℕ)). bind o (commit xs x)) q)
      go (some c) (some d) p q f g =
          g (commit xs x l) ∙ ap (λ (o : Option (List ℕ)). then o d) p ∙ swap c d l ∙ sym (ap (λ (o : Option (List ℕ)). then o c) q) ∙ sym (f (commit xs y l))

  step : (x : Statement) (ys : List Statement) (l : List ℕ) → commits xs (x ∷ ys) l ≡ bind (commit xs x l) (commits xs ys)
  unfolding commits
  step x ys l = go (commit xs x l) refl
    where
      go : (o : Option (List ℕ)) → commit xs x l ≡ o → commits xs (x ∷ ys) l ≡ bind o (commits xs ys)
      go none e = rw (e, commits)
      go (some m) e = rw (e, commits)

  deep : (o : Option (List ℕ)) (y : Statement) (ys : List Statement) → bind o (commits xs (y ∷ ys)) ≡ bind (bind o (commit xs y)) (commits xs ys)
  deep none y ys = refl
  deep (some m) y ys = step y ys m

  two : (x y : Statement) (ys : List Statement) (l : List ℕ) → commits xs (x ∷ y ∷ ys) l ≡ commits xs (y ∷ x ∷ ys) l
  two x y ys l =
      step x (y ∷ ys) l ∙ deep (commit xs x l) y ys ∙ ap (λ (o : Option (List ℕ)). bind o (commits xs ys)) (commit_swap x y l)
      ∙ sym (step y (x ∷ ys) l ∙ deep (commit xs y l) x ys)

  inside : (o : Option (List ℕ)) (f g : List ℕ → Option (List ℕ)) → ((l : List ℕ) → f l ≡ g l) → bind o f ≡ bind o g
  inside none f g h = refl
  inside (some l) f g h = h l

  ends : (o : Option (List ℕ)) → bind o (commits xs []) ≡ o
  unfolding commits
  ends none = refl
  ends (some l) = refl

  nested : (o : Option (List ℕ)) (f g : List ℕ → Option (List ℕ)) → bind o (λ l. bind (f l) g) ≡ bind (bind o f) g
  nested none f g = refl
  nested (some l) f g = refl

  -- the first of them may as well come last
  pub first_last : (x : Statement) (ys : List Statement) (l : List ℕ) → commits xs (x ∷ ys) l ≡ bind (commits xs ys l) (commit xs x)
  unfolding commits
  first_last x [] l = step x [] l ∙ ends (commit xs x l)
  first_last x (y ∷ ys) l =
      two x y ys l ∙ step y (x ∷ ys) l ∙ inside (commit xs y l) (commits xs (x ∷ ys)) (λ m. bind (commits xs ys m) (commit xs x)) (first_last x ys)
      ∙ nested (commit xs y l) (commits xs ys) (commit xs x) ∙ ap (λ (o : Option (List ℕ)). bind o (commit xs x)) (sym (step y ys l))

  module _ (key : Statement → ℕ) where
    insert_first : (x : Statement) (ys : List Statement) (l : List ℕ) → commits xs (insert key x ys) l ≡ commits xs (x ∷ ys) l
    unfolding insert
    insert_first x [] l = refl
    insert_first x (y ∷ ys) l =
        by_bool (leb (key x) (key y)) (λ e. rw (e, insert))
        (λ e. rw (e, insert) (step y (insert key x ys) l ∙ inside (commit xs y l) (commits xs (insert key x ys)) (commits xs (x ∷ ys)) (insert_first x ys) ∙ sym (step y (x ∷ ys) l) ∙ two y x ys l))

    -- by ascending height or by place: the same
    pub any_order : (ys : List Statement) (l : List ℕ) → commits xs (sorted key ys) l ≡ commits xs ys l
    unfolding sorted
    any_order [] l = refl
    any_order (y ∷ ys) l = insert_first y (sorted key ys) l ∙ step y (sorted key ys) l ∙ inside (commit xs y l) (commits xs (sorted key ys)) (commits xs ys) (any_order ys) ∙ sym (step y ys l)
