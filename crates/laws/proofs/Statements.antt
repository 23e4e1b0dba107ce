-- The table of statements: what is the same, what conflicts. The table is seen only by what a search finds. Assumes nothing.
use mathlib.Core.Path.{◌≡◌, subst, refl, sym, ap, ◌∙◌}
use Prim.Native.Nat.{ℕ, suc, ◌<◌}
use native.Mathlib.Omega.{arith}
use native.Mathlib.Decide.{dec_le}
use mathlib.Core.Bool.{Bool, true, false, not, ◌&&◌, ◌||◌}
use mathlib.Core.List.{List, [], ◌∷◌, ◌++◌, Memᴰ}
use mathlib.Core.Logic.{◌⊎◌, inl, inr}
use mathlib.Core.Option.{Option, none, some, map, some-injective}
use lib.Dec.{eqb, leb}
use borrow.Author.Tests.{eqb-true, le-leb, eq-eqb, not-true}
use Rattle.rules.specs.Lists.{iff, first, any, keep, alter, distinct}
use Rattle.rules.specs.Words.{Statement, same_statement, against, conflict, State}
use Rattle.rules.specs.Inputs.{noted, pair, current, in_order}
use Rattle.laws.proofs.Tests.{by_bool, by_option, no_some, no_bool}
use Rattle.laws.proofs.Truths.{eqb_sym, and_2, or_2, or_not, or_sym, iff_eq, iff_refl, iff_sym}
use Rattle.laws.proofs.Searches.{by_mem, any_append, any_alter, any_sorted, any_mem, first_any, mem_keep, mem_sorted, first_mem}

-- ---- the same statement

-- x with another mask and vote
abbrev pub like : Statement → ℕ → Option ℕ → Statement
like x m c =
    record { is_new_view = x.is_new_view; view = x.view; height = x.height; name = x.name; link = x.link; mask = m; author = x.author; voted = c }

pub same_like : (x y : Statement) → same_statement x y ≡ true → y ≡ like x y.mask y.voted
unfolding same_statement
same_like x y e =
    let a1 = and_2 _ (eqb x.author y.author) e in
    let a2 = and_2 _ (eqb x.link y.link) a1.0 in
    let a3 = and_2 _ (eqb x.name y.name) a2.0 in
    let a4 = and_2 _ (eqb x.height y.height) a3.0 in
    let a5 = and_2 (iff x.is_new_view y.is_new_view) (eqb x.view y.view) a4.0 in
    let k = iff_eq x.is_new_view y.is_new_view a5.0 in
    let v = eqb-true x.view y.view a5.1 in
    let h = eqb-true x.height y.height a4.1 in
    let n = eqb-true x.name y.name a3.1 in
    let l = eqb-true x.link y.link a2.1 in
    let a = eqb-true x.author y.author a1.1 in
    sym (λ i. record { is_new_view = k i; view = v i; height = h i; name = n i; link = l i; mask = y.mask; author = a i; voted = y.voted })

pub same_refl : (x : Statement) (m : ℕ) (c : Option ℕ) → same_statement x (like x m c) ≡ true
unfolding same_statement
same_refl x m c =
    rw (iff_refl x.is_new_view, eq-eqb x.view x.view refl, eq-eqb x.height x.height refl, eq-eqb x.name x.name refl, eq-eqb x.link x.link refl, eq-eqb x.author x.author refl)

pub same_self : (x : Statement) → same_statement x x ≡ true
same_self x = same_refl x x.mask x.voted

pub same_sym : (x y : Statement) → same_statement x y ≡ same_statement y x
unfolding same_statement
same_sym x y =
    rw (iff_sym x.is_new_view y.is_new_view, eqb_sym x.view y.view, eqb_sym x.height y.height, eqb_sym x.name y.name, eqb_sym x.link y.link, eqb_sym x.author y.author)

pub same_cong : (x y z : Statement) → same_statement x y ≡ true → same_statement x z ≡ same_statement y z
unfolding same_statement
same_cong x y z e = rw (same_like x y e)

pub noted_same : (x z : Statement) (c : ℕ) → same_statement x (noted c z) ≡ same_statement x z
unfolding same_statement noted
noted_same x z c = refl

-- ---- conflicts

pub conflict_cong : (x y z : Statement) → same_statement x y ≡ true → conflict x z ≡ conflict y z
unfolding conflict
conflict_cong x y z e = sym (ap (λ (w : Statement). conflict w z) (same_like x y e))

pub conflict_sym : (x y : Statement) → conflict x y ≡ conflict y x
unfolding conflict
conflict_sym x y = rw (same_sym x y, eqb_sym x.view y.view, or_sym (against x y) (against y x))

pub conflict_view : (x y : Statement) → conflict x y ≡ true → x.view ≡ y.view
unfolding conflict
conflict_view x y e =
    eqb-true x.view y.view (and_2 (not (same_statement x y)) (eqb x.view y.view) (and_2 (not (same_statement x y) && eqb x.view y.view) _ e).0).1

pub same_no_conflict : (x y : Statement) → same_statement x y ≡ true → conflict x y ≡ false
unfolding conflict
same_no_conflict x y e = rw e

-- of two that conflict one has something against the other
pub conflict_against : (x y : Statement) → conflict x y ≡ true → (against x y ≡ true) ⊎ (against y x ≡ true)
unfolding conflict
conflict_against x y e = or_2 (against x y) (against y x) (and_2 (not (same_statement x y) && eqb x.view y.view) _ e).1

-- two of one view that don't conflict are the same, or neither has anything against the other
pub no_conflict_against : (x w : Statement) → conflict x w ≡ false → w.view ≡ x.view → same_statement x w ≡ false → (against x w ≡ false) × (against w x ≡ false)
unfolding conflict
no_conflict_against x w c v s = or_not (against x w) (against w x) (rw (s, eq-eqb x.view w.view (sym v)) at c)

-- two proposes of one view and height that don't conflict have one name
pub no_conflict_propose : (x w : Statement) → conflict x w ≡ false → w.view ≡ x.view → x.is_new_view ≡ false → w.is_new_view ≡ false
    → w.height ≡ x.height → w.name ≡ x.name
unfolding against
no_conflict_propose x w c v kx kw h =
    by_bool (same_statement x w) (λ s. ap (λ (y : Statement). y.name) (same_like x w s)) λ s.
    by_bool (eqb x.name w.name) (λ e. sym (eqb-true x.name w.name e)) λ e.
    no_bool (rw (kx, kw, eq-eqb x.height w.height (sym h), e) at (no_conflict_against x w c v s).0)

-- a new-view that doesn't conflict with a propose of its view is below it
pub no_conflict_new_view : (x w : Statement) → conflict x w ≡ false → w.view ≡ x.view → x.is_new_view ≡ false → w.is_new_view ≡ true
    → w.height < x.height
unfolding against
no_conflict_new_view x w c v kx kw =
    by_bool (same_statement x w) (λ s. no_bool (sym kw ∙ ap (λ (y : Statement). y.is_new_view) (same_like x w s) ∙ kx)) λ s.
    by_bool (leb x.height w.height) (λ l. no_bool (rw (kx, kw, l) at (no_conflict_against x w c v s).1)) λ l.
    elim (dec_le x.height w.height) [
      | yes d ↦ no_bool (sym (le-leb x.height w.height d) ∙ l)
      | no d ↦ omega arith
    ]

-- two of one view and height that don't conflict have one name, of whatever kind they are
pub no_conflict_level : (x w : Statement) → conflict x w ≡ false → w.view ≡ x.view → w.height ≡ x.height → w.name ≡ x.name
unfolding against
no_conflict_level x w c v h =
    by_bool x.is_new_view
    (λ kx.
    by_bool w.is_new_view
    (λ kw.
    by_bool (same_statement x w) (λ s. ap (λ (y : Statement). y.name) (same_like x w s))
    (λ s. no_bool (rw (kx, kw) at (no_conflict_against x w c v s).0)))
    (λ kw. let z = no_conflict_new_view w x (conflict_sym w x ∙ c) (sym v) kw kx in absurd (omega arith)))
    (λ kx.
    by_bool w.is_new_view (λ kw. let z = no_conflict_new_view x w c v kx kw in absurd (omega arith)) (λ kw. no_conflict_propose x w c v kx kw h))

-- ---- what is stored

abbrev pub In : List Statement → Statement → Type 0
In xs x = any (same_statement x) xs ≡ true

pub mem_in : (xs : List Statement) (x : Statement) → Memᴰ x xs → In xs x
mem_in xs x m = any_mem (same_statement x) xs x m (same_self x)

pub in_cong : (x y : Statement) → same_statement x y ≡ true → (xs : List Statement) → any (same_statement x) xs ≡ any (same_statement y) xs
unfolding any
in_cong x y e [] = refl
in_cong x y e (z ∷ zs) =
    let k = same_cong x y z e in
    by_bool (same_statement y z) (λ q. rw (q, any) (rw (k ∙ q, any) refl)) (λ q. rw (q, any) (rw (k ∙ q, any) (in_cong x y e zs)))

pub in_append : (xs : List Statement) (y x : Statement) → In xs x → In (xs ++ y ∷ []) x
in_append xs y x h = any_append (same_statement x) xs y ∙ ap (λ (b : Bool). b || same_statement x y) h

pub in_last : (xs : List Statement) (x : Statement) → In (xs ++ x ∷ []) x
in_last xs x = any_append (same_statement x) xs x ∙ go (any (same_statement x) xs) (same_self x)
  where
    go : (a : Bool) {b : Bool} → b ≡ true → (a || b) ≡ true
    go true e = refl
    go false e = e

pub in_noted : (y w : Statement) (c : ℕ) (xs : List Statement) → any (same_statement y) (alter (same_statement w) (noted c) xs) ≡ any (same_statement y) xs
in_noted y w c xs = any_alter (same_statement y) (same_statement w) (noted c) (λ z. noted_same y z c) xs

-- a vote marks what it is for, and nothing else
pub first_noted : (x y : Statement) (c : ℕ) → same_statement x y ≡ true → (xs : List Statement)
    → first (same_statement x) (alter (same_statement y) (noted c) xs) ≡ map (noted c) (first (same_statement x) xs)
unfolding first alter noted
first_noted x y c e [] = refl
first_noted x y c e (z ∷ zs) =
    let k = same_cong x y z e in
    by_bool (same_statement y z) (λ q. rw (q, alter, first) (rw (k ∙ q, first, noted_same x z c ∙ k ∙ q) refl))
    (λ q. rw (q, alter, first) (rw (k ∙ q, first) (first_noted x y c e zs)))

pub first_other : (x y : Statement) (c : ℕ) → same_statement x y ≡ false → (xs : List Statement)
    → first (same_statement x) (alter (same_statement y) (noted c) xs) ≡ first (same_statement x) xs
unfolding first alter
first_other x y c e [] = refl
first_other x y c e (z ∷ zs) =
    by_bool (same_statement y z)
    (λ q.
    let n : same_statement x z ≡ false = same_sym x z ∙ sym (same_cong y z x q) ∙ same_sym y x ∙ e in
    rw (q, alter, first) (rw (noted_same x z c ∙ n, n, first) refl))
    (λ q.
    by_bool (same_statement x z) (λ r. rw (q, alter, first) (rw (r, first) refl))
    (λ r. rw (q, alter, first) (rw (r, first) (first_other x y c e zs))))

-- ---- no two stored ones conflict

-- no two that conflict, of which one is of view v
abbrev pub Clean : ℕ → List Statement → Type 0
Clean v xs = (x y : Statement) → In xs x → In xs y → x.view ≡ v → conflict x y ≡ false

pub no_conflict : (x y : Statement) (xs : List Statement) → first (conflict x) xs ≡ none → In xs y → conflict x y ≡ false
unfolding first any
no_conflict x y [] e a = no_bool (sym a)
no_conflict x y (z ∷ zs) e a =
    by_bool (conflict x z) (λ q. no_some (sym (rw (q, first) at e))) λ q.
    by_bool (same_statement y z) (λ r. conflict_sym x y ∙ conflict_cong y z x r ∙ conflict_sym z x ∙ q)
    (λ r. no_conflict x y zs (rw (q, first) at e) (rw (r, any) at a))

pair_none : (x y : Statement) (xs : List Statement) → pair xs ≡ none → In xs x → In xs y → conflict x y ≡ false
unfolding pair any
pair_none x y [] e a b = no_bool (sym a)
pair_none x y (z ∷ zs) e a b =
    by_option (first (conflict z) zs)
    (λ q.
    by_bool (same_statement x z)
    (λ r.
    by_bool (same_statement y z) (λ u. same_no_conflict x y (same_cong x z y r ∙ same_sym z y ∙ u))
    (λ u. conflict_cong x z y r ∙ no_conflict z y zs q (rw (u, any) at b)))
    (λ r.
    by_bool (same_statement y z) (λ u. conflict_sym x y ∙ conflict_cong y z x u ∙ no_conflict z x zs q (rw (r, any) at a))
    (λ u. pair_none x y zs (rw (q, pair) at e) (rw (r, any) at a) (rw (u, any) at b))))
    (λ y' q. no_some (sym (rw (q, pair) at e)))

-- of the statements of one view
pub in_keep : (v : ℕ) (x : Statement) (xs : List Statement) → x.view ≡ v → In xs x → In (keep (λ y. eqb y.view v) xs) x
unfolding any keep
in_keep v x [] e a = no_bool (sym a)
in_keep v x (z ∷ zs) e a =
    by_bool (same_statement x z)
    (λ q. let w : eqb z.view v ≡ true = eq-eqb z.view v (ap (λ (y : Statement). y.view) (same_like x z q) ∙ e) in rw (w, keep) (rw (q, any) refl))
    (λ q.
    by_bool (eqb z.view v) (λ w. rw (w, keep) (rw (q, any) (in_keep v x zs e (rw (q, any) at a))))
    (λ w. rw (w, keep) (in_keep v x zs e (rw (q, any) at a))))

pub clean_view : (v : ℕ) (xs : List Statement) → pair (keep (λ y. eqb y.view v) xs) ≡ none → Clean v xs
clean_view v xs e x y a b h =
    by_bool (conflict x y) (λ q. pair_none x y _ e (in_keep v x xs h a) (in_keep v y xs (sym (conflict_view x y q) ∙ h) b)) (λ q. q)

-- a pair that is found conflicts, and is of the list
pub pair_some : (xs : List Statement) (p : Statement × Statement) → pair xs ≡ some p
    → (conflict p.0 p.1 ≡ true) × Memᴰ p.0 xs × Memᴰ p.1 xs
unfolding pair
pair_some [] p e = no_some e
pair_some (z ∷ zs) p e =
    by_option (first (conflict z) zs) (λ q. let r = pair_some zs p (rw (q, pair) at e) in (r.0, Memᴰ.tail r.1, Memᴰ.tail r.2))
    (λ y q.
    subst (λ (r : Statement × Statement). (conflict r.0 r.1 ≡ true) × Memᴰ r.0 (z ∷ zs) × Memᴰ r.1 (z ∷ zs))
    (some-injective (z, y) p (rw (q, pair) at e)) ((first_any (conflict z) zs y q).1, Memᴰ.head refl, Memᴰ.tail (first_mem (conflict z) zs y q)))

same_view : (x y : Statement) → same_statement x y ≡ true → y.view ≡ x.view
same_view x y e = ap (λ (w : Statement). w.view) (same_like x y e)

pub clean_append : (v : ℕ) (xs : List Statement) (w : Statement) → Clean v xs → (w.view ≡ v → first (conflict w) xs ≡ none) → Clean v (xs ++ w ∷ [])
clean_append v xs w c n x y a b h = go (or_2 _ _ (rw any_append at a)) (or_2 _ _ (rw any_append at b))
  where
    go : In xs x ⊎ (same_statement x w ≡ true) → In xs y ⊎ (same_statement y w ≡ true) → conflict x y ≡ false
    go (inl p) (inl q) = c x y p q h
    go (inl p) (inr q) =
        by_bool (conflict x y)
        (λ k. conflict_sym x y ∙ conflict_cong y w x q ∙ no_conflict w x xs (n (same_view y w q ∙ sym (conflict_view x y k) ∙ h)) p) (λ k. k)
    go (inr p) (inl q) = conflict_cong x w y p ∙ no_conflict w y xs (n (same_view x w p ∙ h)) q
    go (inr p) (inr q) = same_no_conflict x y (same_cong x w y p ∙ same_sym w y ∙ q)

-- ---- the statements of the view, in the order of voting

abbrev place : Statement → ℕ
place x = elim x.is_new_view [ true ↦ 0 | false ↦ suc x.height ]

pub in_order_lem : (p : Statement → Bool) (xs : List Statement) → any p (in_order xs) ≡ any p xs
unfolding in_order
in_order_lem p xs = any_sorted p place xs

pub mem_order : (s : State) (x : Statement) → Memᴰ x (in_order (current s)) → Memᴰ x s.statements × (x.view ≡ s.view)
unfolding in_order current
mem_order s x m = let r = mem_keep (λ (y : Statement). eqb y.view s.view) s.statements x (mem_sorted place _ x m) in (r.0, eqb-true x.view s.view r.1)

-- where no statement is stored twice, a stored one is what a search for it finds
pub once_first : (xs : List Statement) (z : Statement) → distinct same_statement xs ≡ true → Memᴰ z xs → first (same_statement z) xs ≡ some z
unfolding first distinct
once_first [] z o m = elim m [ ]
once_first (x ∷ xs) z o m =
    let (n, d) = and_2 (not (any (same_statement x) xs)) (distinct same_statement xs) o in
    by_mem m (λ e. rw e (rw (same_self x, first) refl))
    (λ t.
    by_bool (same_statement z x) (λ q. no_bool (sym (any_mem (same_statement x) xs z t (same_sym x z ∙ q)) ∙ not-true (any (same_statement x) xs) n))
    (λ q. rw (q, first) (once_first xs z d t)))
