-- The step of the search for the highest certificate. Assumes nothing.
use Prim.Native.Nat.{ℕ, ◌+◌, ◌-◌, ◌*◌, ◌^◌, ◌<◌, ◌≤◌}
use mathlib.Core.Path.{◌≡◌, refl, sym, ap, ◌∙◌}
use mathlib.Core.Bool.{Bool, true, false, ◌&&◌, and-false}
use mathlib.Core.List.{List, ◌∷◌}
use native.Mathlib.Omega.{arith}
use mathlib.Core.Logic.{⊎_elim}
use lib.Dec.{ltb, eqb}
use borrow.Author.Tests.{eq-eqb, ne_eqb, eqb-true, lt-ltb, le-ltb, ltb-true, ltb-false}
use Rattle.rules.specs.Sizes.{Settings, quorum}
use Rattle.rules.specs.Words.{Certificate, Tally, certificate_of, genesis, certified, below, higher, highest}
use Rattle.laws.proofs.Tests.{by_bool, no_bool}
use Rattle.laws.proofs.Truths.{and_2, or_2}
use Rattle.store.specs.Decode.{rows}
use Rattle.certificates.specs.Chosen.{chosen}
use Rattle.store.proofs.Rows.{rows_end, rows_whole, rows_back}

-- a rank as one number
pub rank_number : (t u : Certificate) → t.height < 256 ^ 4 → u.height < 256 ^ 4 → {k l : ℕ} → k ≡ t.view * 256 ^ 4 + t.height → l ≡ u.view * 256 ^ 4 + u.height → ltb k l ≡ below t u
unfolding below
rank_number t u p q {k} {l} e d =
    by_bool (ltb t.view u.view)
    (λ a. rw (a, lt-ltb k l (let m = ltb-true t.view u.view a in omega arith)))
    (λ a.
    let m = ltb-false t.view u.view a in
    by_bool (eqb t.view u.view)
    (λ b.
    let n = eqb-true t.view u.view b in
    by_bool (ltb t.height u.height) (λ c. rw (a, b, c, lt-ltb k l (let o = ltb-true t.height u.height c in omega arith)))
    (λ c. rw (a, b, c, le-ltb k l (let o = ltb-false t.height u.height c in omega arith))))
    (λ b. rw (a, b, le-ltb k l (let n : t.view ≡ u.view → ⊥ = λ z. no_bool (sym (eq-eqb _ _ z) ∙ b) in omega arith))))

below_not : (t u : Certificate) → below t u ≡ true → below u t ≡ false
unfolding below
below_not t u e =
    ⊎_elim (λ p. let l = ltb-true t.view u.view p in rw (le-ltb u.view t.view (omega arith), ne_eqb u.view t.view (λ q. omega arith)))
    (λ p.
    let s = and_2 (eqb t.view u.view) (ltb t.height u.height) p in
    let q = eqb-true t.view u.view s.0 in
    let l = ltb-true t.height u.height s.1 in
    rw (le-ltb u.view t.view (omega arith), le-ltb u.height t.height (omega arith)) (and-false (eqb u.view t.view)))
    (or_2 (ltb t.view u.view) (eqb t.view u.view && ltb t.height u.height) e)

abbrev chosen_if : Bool → Certificate → Certificate → Certificate
chosen_if a t best = elim a [ true ↦ t | false ↦ best ]

module _ (g : Settings) (v : ℕ) (t best : Certificate) where
  by_tests : chosen g v t best ≡ chosen_if (ltb t.view v && quorum g t.mask && higher t best) t best
  unfolding chosen
  by_tests = refl

  pub chosen_late : v ≤ t.view → best ≡ chosen g v t best
  chosen_late h = rw (by_tests, le-ltb _ _ h)

  pub chosen_few : quorum g t.mask ≡ false → best ≡ chosen g v t best
  chosen_few h = by_bool (ltb t.view v) (λ q. rw (by_tests, q, h)) (λ q. rw (by_tests, q))

  pub chosen_lower : higher t best ≡ false → best ≡ chosen g v t best
  chosen_lower h = by_bool (ltb t.view v && quorum g t.mask) (λ q. rw (by_tests, q, h)) (λ q. rw (by_tests, q))

  pub chosen_below : below t best ≡ true → best ≡ chosen g v t best
  unfolding higher
  chosen_below h = chosen_lower (rw (below_not t best h, h))

  pub chosen_here : t.view < v → quorum g t.mask ≡ true → higher t best ≡ true → t ≡ chosen g v t best
  chosen_here l q h = rw (by_tests, lt-ltb _ _ l, q, h)

module _ (g : Settings) (v : ℕ) where
  highest_cons : (t : Tally) (ts : List Tally) → highest g v (t ∷ ts) ≡ chosen g v (certificate_of t) (highest g v ts)
  unfolding highest certified chosen
  highest_cons t ts = refl

  module _ (f : ℕ → Tally) (n : ℕ) where
    pub highest_none : (i : ℕ) → n ≤ i → genesis ≡ highest g v (rows f i (n - i))
    unfolding highest
    highest_none i h = rw (rows_end f n i h)

    pub highest_step : (i : ℕ) → 0 < i → i ≤ n → (g' : Settings) (t best new : Certificate) → g' ≡ g → t ≡ certificate_of (f (i - 1)) → best ≡ highest g v (rows f i (n - i)) → new ≡ chosen g' v t best
        → new ≡ highest g v (rows f (i - 1) (n - (i - 1)))
    highest_step i l m g' t best new p q r e =
        e ∙ (λ k. chosen (p k) v (q k) (r k)) ∙ sym (ap (highest g v) (rows_back f n i l m) ∙ highest_cons (f (i - 1)) (rows f i (n - i)))

    pub highest_all : (i : ℕ) → i ≤ 0 → highest g v (rows f i (n - i)) ≡ highest g v (rows f 0 n)
    highest_all i h = ap (highest g v) (rows_whole f n i h)
