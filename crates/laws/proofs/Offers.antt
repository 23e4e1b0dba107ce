-- What an offer that is taken makes: who leads makes a propose above the stored statement of greatest height of the view. Assumes nothing.
use mathlib.Core.Path.{◌≡◌, refl, sym, ap, ◌∙◌}
use Prim.Native.Nat.{ℕ, ◌≤◌}
use native.Mathlib.Omega.{arith}
use mathlib.Core.Bool.{true, false, not, ◌&&◌}
use mathlib.Core.List.{List, [], ◌∷◌, Memᴰ}
use mathlib.Core.Option.{some, some-injective}
use lib.Dec.{ltb, eqb}
use borrow.Author.Tests.{eqb-true, eq-eqb, ltb-true, ltb-false, not-true}
use Rattle.rules.specs.Messages.{Message}
use Rattle.rules.specs.Words.{Statement, State}
use Rattle.rules.specs.Inputs.{leads, is_opened, is_used, top, extendable, above, offered}
use Rattle.laws.proofs.Tests.{by_bool, by_option, no_some}
use Rattle.laws.proofs.Truths.{and_2}

-- the greatest-height statement of a view is stored and of that view
pub top_mem : (v : ℕ) (xs : List Statement) (x : Statement) → top v xs ≡ some x → Memᴰ x xs × (x.view ≡ v)
unfolding top
top_mem v [] x e = no_some e
top_mem v (y ∷ ys) x e =
    by_bool (eqb y.view v)
    (λ q.
    let this : some y ≡ some x → Memᴰ x (y ∷ ys) × (x.view ≡ v) =
    λ f. let k = some-injective y x f in (mathlib.Core.List.Memᴰ.head (sym k), rw (← k) (eqb-true y.view v q)) in
    by_option (top v ys) (λ r. this (rw (q, r, top) at e)) λ z r.
    by_bool (ltb y.height z.height)
    (λ k. let h = top_mem v ys x (r ∙ (rw (q, r, k, top) at e)) in (mathlib.Core.List.Memᴰ.tail h.0, h.1)) (λ k. this (rw (q, r, k, top) at e)))
    (λ q. let h = top_mem v ys x (rw (q, top) at e) in (mathlib.Core.List.Memᴰ.tail h.0, h.1))

-- if one of a view is stored, the greatest-height statement of it is found, and no lower
pub top_some : (v : ℕ) (xs : List Statement) (z : Statement) → Memᴰ z xs → z.view ≡ v → (x : Statement) × (top v xs ≡ some x) × (z.height ≤ x.height)
unfolding top
top_some v [] z m w = elim m [ ]
top_some v (y ∷ ys) z (mathlib.Core.List.Memᴰ.head e) w =
    let q : eqb y.view v ≡ true = eq-eqb y.view v (ap (λ (u : Statement). u.view) (sym e) ∙ w) in
    let h : z.height ≡ y.height = ap (λ (u : Statement). u.height) e in
    by_option (top v ys) (λ r. (y, rw (q, r, top) refl, omega (arith, h))) λ x r.
    by_bool (ltb y.height x.height) (λ k. (x, rw (q, r, k, top) refl, omega (arith, h, ltb-true y.height x.height k)))
    (λ k. (y, rw (q, r, k, top) refl, omega (arith, h)))
top_some v (y ∷ ys) z (mathlib.Core.List.Memᴰ.tail m) w =
    let (x, r, l) = top_some v ys z m w in
    by_bool (eqb y.view v)
    (λ q.
    by_bool (ltb y.height x.height) (λ k. (x, rw (q, r, k, top) refl, l))
    (λ k. (y, rw (q, r, k, top) refl, omega (arith, l, ltb-false y.height x.height k))))
    (λ q. (x, rw (q, top) r, l))

pub offer_made : (b : ℕ) (s : State) (m : Message) → offered b s ≡ some m
    → (x : Statement) × (top s.view s.statements ≡ some x) × (leads s ≡ true) × (is_opened s ≡ true) × (eqb b 0 ≡ false) × (extendable x s ≡ true) × (above x b s ≡ m)
unfolding offered
offer_made b s m e =
    by_bool (leads s && is_opened s && not (eqb b 0) && not (is_used b s))
    (λ c.
    let c1 = and_2 (leads s && is_opened s && not (eqb b 0)) (not (is_used b s)) c in
    let c2 = and_2 (leads s && is_opened s) (not (eqb b 0)) c1.0 in
    let c3 = and_2 (leads s) (is_opened s) c2.0 in
    by_option (top s.view s.statements) (λ t. no_some (rw (c, t, offered) at e)) λ x t.
    by_bool (extendable x s)
    (λ k. (x, t, c3.0, c3.1, not-true (eqb b 0) c2.1, k, some-injective (above x b s) m (rw (c, t, k, offered) at e)))
    (λ k. no_some (rw (c, t, k, offered) at e)))
    (λ c. no_some (rw (c, offered) at e))
