-- Nothing that the rules read of the tallies hangs on the clocks they keep, and joining goes the same without. Assumes nothing.
use mathlib.Core.Path.{◌≡◌, refl, sym, ap, ◌∙◌}
use Prim.Native.Nat.{ℕ, suc}
use mathlib.Core.Bool.{◌&&◌}
use mathlib.Core.List.{List, [], ◌∷◌, map}
use lib.Dec.{eqb, ltb}
use Rattle.rules.specs.Lists.{any, keep}
use Rattle.rules.specs.Sizes.{Settings}
use Rattle.rules.specs.Words.{Certificate, Tally, Moment, certificate_of, of_block, same_block, grown, join, join_certificate, is_author, opened_by, voters, certified, higher, highest}
use Rattle.laws.proofs.Tests.{by_bool}
use Rattle.clocks.specs.Forget.{clockless}

-- two tables that differ in the clocks alone
abbrev pub Same : List Tally → List Tally → Type 0
Same us vs = map clockless us ≡ map clockless vs

pub twice : (us : List Tally) → map clockless (map clockless us) ≡ map clockless us
unfolding clockless
twice [] = refl
twice (u ∷ us) = ap (clockless u ∷◌) (twice us)

pub join_forgets : (k : Moment) (t : Certificate) (us : List Tally) → Same (join k t (map clockless us)) (join k t us)
unfolding join grown clockless
join_forgets k t [] = refl
join_forgets k t (u ∷ us) =
    by_bool (same_block t (certificate_of u)) (λ q. rw (q, join) (ap (clockless (grown k u t.mask) ∷◌) (twice us)))
    (λ q. rw (q, join) (ap (clockless u ∷◌) (join_forgets k t us)))

pub join_same : (k : Moment) (t : Certificate) (us vs : List Tally) → Same us vs → Same (join k t us) (join k t vs)
join_same k t us vs e = sym (join_forgets k t us) ∙ ap (λ ts. map clockless (join k t ts)) e ∙ join_forgets k t vs

pub certificate_same : (k : Moment) (t : Certificate) (us vs : List Tally) → Same us vs → Same (join_certificate k t us) (join_certificate k t vs)
unfolding join_certificate
certificate_same k t us vs e = by_bool (eqb t.view 0) (λ q. rw (q, join_certificate) e) (λ q. rw (q, join_certificate) (join_same k t us vs e))

-- without the clocks, joining hangs on who opens the tally, and not on when
pub join_timeless : (k l : Moment) → k.opener ≡ l.opener → (t : Certificate) (us : List Tally) → Same (join k t us) (join l t us)
unfolding join grown clockless
join_timeless k l e t [] = rw e
join_timeless k l e t (u ∷ us) =
    by_bool (same_block t (certificate_of u)) (λ q. rw (q, join)) (λ q. rw (q, join) (ap (clockless u ∷◌) (join_timeless k l e t us)))

pub voters_forgets : (q : Certificate) (us : List Tally) → voters q (map clockless us) ≡ voters q us
unfolding voters clockless
voters_forgets q [] = refl
voters_forgets q (u ∷ us) = by_bool (same_block q (certificate_of u)) (λ e. rw (e, voters)) (λ e. rw (e, voters) (voters_forgets q us))

pub highest_forgets : (g : Settings) (v : ℕ) (us : List Tally) → highest g v (map clockless us) ≡ highest g v us
unfolding highest certified clockless
highest_forgets g v [] = refl
highest_forgets g v (u ∷ us) =
    let e = highest_forgets g v us in
    by_bool (ltb u.view v && certified g u && higher (certificate_of u) (highest g v us)) (λ q. rw (highest, e, q)) (λ q. rw (highest, e, q) e)

pub any_forgets : (q : Certificate) (us : List Tally) → any (of_block q) (map clockless us) ≡ any (of_block q) us
unfolding any clockless
any_forgets q [] = refl
any_forgets q (u ∷ us) = by_bool (of_block q u) (λ e. rw (e, any)) (λ e. rw (e, any) (any_forgets q us))

pub opened_forgets : (a : ℕ) (us : List Tally) → opened_by a (map clockless us) ≡ opened_by a us
unfolding opened_by keep clockless
opened_forgets a [] = refl
opened_forgets a (u ∷ us) =
    by_bool (is_author a u.opener) (λ e. rw (e, keep) (ap suc (opened_forgets a us))) (λ e. rw (e, keep) (opened_forgets a us))
