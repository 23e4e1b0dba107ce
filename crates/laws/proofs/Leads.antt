-- When a leader makes its new-view and of what, when a station blames, and that a new-view of its lock's rank is voted for: what
-- request 12 rests on, each definition opened once. Assumes nothing.
use mathlib.Core.Path.{◌≡◌, refl, ◌∙◌}
use Prim.Native.Nat.{ℕ, ◌+◌, ◌-◌, ◌*◌, ◌≤◌, ◌<◌}
use native.Mathlib.Omega.{arith}
use mathlib.Core.Bool.{true, false, not, ◌&&◌}
use mathlib.Core.List.{List}
use mathlib.Core.Logic.{◌⊎◌, inl, inr}
use mathlib.Core.Option.{none}
use lib.Dec.{ltb, eqb}
use borrow.Author.Tests.{eqb-true, eq-eqb, leb-true, ltb-true}
use Rattle.rules.specs.Sizes.{Settings, holds}
use Rattle.rules.specs.Words.{Statement, message, Certificate, Tally, certificate, below, highest, State}
use Rattle.rules.specs.Inputs.{is_in, below_lock, leads, blames_of, votes, overdue, leads_now, own_new_view}
use Rattle.laws.proofs.Tests.{by_bool}
use Rattle.laws.proofs.Truths.{and_2, both, or_2}
use Rattle.laws.proofs.Tallies.{Above}

-- "its leader at exactly entry+2D+1"
pub leads_at : (s : State) → leads_now s ≡ true → (leads s ≡ true) × (s.clock ≡ s.entry + 2 * s.settings.D + 1)
unfolding leads_now
leads_at s q = let (l, c) = and_2 (leads s) _ q in (l, eqb-true s.clock (s.entry + 2 * s.settings.D + 1) c)

pub at_leads : (s : State) → leads s ≡ true → s.clock ≡ s.entry + 2 * s.settings.D + 1 → leads_now s ≡ true
unfolding leads_now
at_leads s l c = both l (eq-eqb s.clock (s.entry + 2 * s.settings.D + 1) c)

-- "a new-view from the highest certificate of an earlier view": of these settings, in view v, of these tallies
abbrev pub new_view_of : Settings → ℕ → List Tally → Statement
new_view_of g v ts =
    let t = highest g v ts in
    record { is_new_view = true; view = v; height = t.height; name = t.name; link = t.view; mask = t.mask; author = g.own; voted = none }

pub own_message : (s : State) → message (new_view_of s.settings s.view s.tallies) ≡ own_new_view s
unfolding message own_new_view
own_message s = refl

-- "if clock minus entry is at least (2m+6)D+2"
pub overdue_at : (s : State) → overdue s ≡ true → (2 * votes s + 6) * s.settings.D + 2 ≤ s.clock - s.entry
unfolding overdue
overdue_at s q =
    leb-true ((2 * votes s + 6) * s.settings.D + 2) (s.clock - s.entry)
    (and_2 (is_in s.view s && not (holds (blames_of s.view s) s.settings.own)) _ q).1

-- what ranks at or above is not below
above_high : (t u : Certificate) → Above t u → below t u ≡ false
unfolding below
above_high t u a = by_bool (below t u) (λ q. go a (or_2 (ltb t.view u.view) _ q)) (λ q. q)
  where
    go : Above t u → (ltb t.view u.view ≡ true) ⊎ ((eqb t.view u.view && ltb t.height u.height) ≡ true) → below t u ≡ false
    go (inl l) (inl q) = let z = ltb-true t.view u.view q in absurd (omega arith)
    go (inl l) (inr q) = let z = eqb-true t.view u.view (and_2 (eqb t.view u.view) _ q).0 in absurd (omega arith)
    go (inr (e, l)) (inl q) = let z = ltb-true t.view u.view q in absurd (omega arith)
    go (inr (e, l)) (inr q) = let z = ltb-true t.height u.height (and_2 (eqb t.view u.view) _ q).1 in absurd (omega arith)

-- "a new-view is voted for if its certificate ranks at or above the lock"
pub new_view_high : (x : Statement) (s : State) (t : Certificate) → x.is_new_view ≡ true → x.link ≡ t.view → x.height ≡ t.height → Above t s.lock
    → below_lock x s ≡ false
unfolding below_lock certificate
new_view_high x s t k l h a =
    rw k (above_high (record { view = x.link; height = x.height; name = x.name; mask = x.mask }) s.lock (rank a))
  where
    rank : Above t s.lock → (s.lock.view < x.link) ⊎ ((x.link ≡ s.lock.view) × (s.lock.height ≤ x.height))
    rank (inl d) = inl (omega arith)
    rank (inr (e, d)) = inr (l ∙ e, omega arith)
