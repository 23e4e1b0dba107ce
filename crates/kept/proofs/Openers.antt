-- Who opened how many tallies: joining opens at most one, for whom it says, and nobody opens more than one may. Assumes nothing.
use mathlib.Core.Path.{◌≡◌, refl, sym, ap}
use mathlib.Core.Logic.{◌⊎◌, inl, inr}
use Prim.Native.Nat.{ℕ, zero, suc, ◌≤◌, ◌<◌}
use native.Mathlib.Omega.{arith}
use native.Mathlib.Decide.{dec_lt}
use mathlib.Core.Bool.{true, false}
use mathlib.Core.List.{List, [], ◌∷◌}
use mathlib.Core.Option.{none, some}
use lib.Dec.{leb, eqb}
use borrow.Author.Tests.{leb-true, leb-false, le-leb, eqb-true}
use Rattle.rules.specs.Limits.{most_opened}
use Rattle.rules.specs.Lists.{any, keep}
use Rattle.rules.specs.Sizes.{only}
use Rattle.rules.specs.Messages.{vote}
use Rattle.rules.specs.Words.{Certificate, Opener, Tally, Moment, of_block, same_block, grown, join, join_certificate, is_author, opened_by, State}
use Rattle.rules.specs.Refusals.{used_up}
use Rattle.rules.specs.WellFormed.{few_opened}
use Rattle.laws.proofs.Tests.{by_bool, no_bool}
use Rattle.laws.proofs.Truths.{and_2, both}

-- ---- at most so many for each

pub few_each : (n : ℕ) (ts : List Tally) → few_opened n ts ≡ true → (a : ℕ) → a < n → opened_by a ts ≤ most_opened
unfolding few_opened
few_each zero ts e a l = absurd (omega arith)
few_each (suc n) ts e a l =
    let p = and_2 (leb (opened_by n ts) most_opened) (few_opened n ts) e in
    elim (dec_lt a n) [
      | yes k ↦ few_each n ts p.1 a k
      | no k ↦ (let q : a ≡ n = omega arith in rw q (leb-true (opened_by n ts) most_opened p.0))
    ]

pub each_few : (n : ℕ) (ts : List Tally) → ((a : ℕ) → a < n → opened_by a ts ≤ most_opened) → few_opened n ts ≡ true
unfolding few_opened
each_few zero ts h = refl
each_few (suc n) ts h = both (le-leb (opened_by n ts) most_opened (h n (omega arith))) (each_few n ts (λ a l. h a (omega arith)))

-- ---- joining

-- what one more record counts
opened_cons : (a : ℕ) (t : Tally) (us vs : List Tally) → opened_by a us ≡ opened_by a vs → opened_by a (t ∷ us) ≡ opened_by a (t ∷ vs)
unfolding opened_by keep
opened_cons a t us vs e = by_bool (is_author a t.opener) (λ q. rw (q, keep) (ap suc e)) (λ q. rw (q, keep) e)

opened_suc : (a : ℕ) (t : Tally) (us vs : List Tally) → opened_by a us ≡ suc (opened_by a vs) → opened_by a (t ∷ us) ≡ suc (opened_by a (t ∷ vs))
unfolding opened_by keep
opened_suc a t us vs e = by_bool (is_author a t.opener) (λ q. rw (q, keep) (ap suc e)) (λ q. rw (q, keep) e)

opened_grown : (a : ℕ) (k : Moment) (u : Tally) (m : ℕ) (us : List Tally) → opened_by a (grown k u m ∷ us) ≡ opened_by a (u ∷ us)
unfolding opened_by keep grown
opened_grown a k u m us = by_bool (is_author a u.opener) (λ q. rw (q, keep) refl) (λ q. rw (q, keep) refl)

-- it opens none, or one that is missing, for whom it says
pub opened_join : (a : ℕ) (k : Moment) (t : Certificate) (us : List Tally)
    → (opened_by a (join k t us) ≡ opened_by a us)
    ⊎ ((any (of_block t) us ≡ false) × (is_author a k.opener ≡ true) × (opened_by a (join k t us) ≡ suc (opened_by a us)))
unfolding join any
opened_join a k t [] =
    by_bool (is_author a k.opener) (λ q. inr (refl, q, unfold opened_by keep in rw (q, keep) refl)) (λ q. inl (unfold opened_by keep in rw (q, keep) refl))
opened_join a k t (u ∷ us) =
    by_bool (of_block t u) (λ q. rw (q, join, any) (inl (opened_grown a k u t.mask us)))
    (λ q.
    rw (q, join, any)
    (elim (opened_join a k t us) [
      | inl e ↦ inl (opened_cons a u (join k t us) us e)
      | inr (n, h, e) ↦ inr (n, h, opened_suc a u (join k t us) us e)
    ]))

-- whom a joining names may open one more, if it has to
abbrev pub MayOpen : Opener → Certificate → List Tally → Type 0
MayOpen k t us = (a : ℕ) → is_author a k ≡ true → any (of_block t) us ≡ false → opened_by a us < most_opened

pub nobody_may : (t : Certificate) (us : List Tally) → MayOpen none t us
unfolding is_author
nobody_may t us a e n = no_bool (sym e)

-- the author of a vote that isn't refused with 12 may
pub author_may : (v h b a : ℕ) (s : State) → used_up (vote v h b a) s ≡ false → MayOpen (some a) (record { view = v; height = h; name = b; mask = only a }) s.tallies
unfolding used_up is_author same_block
author_may v h b a s u c e n =
    let q : c ≡ a = eqb-true c a e in
    rw q (leb-false most_opened (opened_by a s.tallies) (rw n at u))

pub join_few : (k : Moment) (t : Certificate) (n : ℕ) (us : List Tally) → MayOpen k.opener t us → few_opened n us ≡ true → few_opened n (join k t us) ≡ true
join_few k t n us m h =
    each_few n (join k t us)
    (λ a l.
    let o = few_each n us h a l in
    elim (opened_join a k t us) [
      | inl e ↦ rw e o
      | inr (q, b, e) ↦ (let r = m a b q in rw e (omega arith))
    ])

pub certificate_few : (k : Moment) (t : Certificate) (n : ℕ) (us : List Tally) → MayOpen k.opener t us → few_opened n us ≡ true
    → few_opened n (join_certificate k t us) ≡ true
unfolding join_certificate
certificate_few k t n us m h = by_bool (eqb t.view 0) (λ q. rw (q, join_certificate) h) (λ q. rw (q, join_certificate) (join_few k t n us m h))
