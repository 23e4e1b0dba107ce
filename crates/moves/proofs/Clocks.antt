-- How many tallies are in use is the same at every clock: joining goes by the blocks alone. Assumes nothing.
use Prim.Native.Nat.{ℕ, suc}
use mathlib.Core.Path.{◌≡◌, refl, sym, ap, ◌∙◌}
use mathlib.Core.List.{List, [], ◌∷◌}
use lib.Dec.{eqb}
use lib.ListN.{length}
use Rattle.rules.specs.Sizes.{joined}
use Rattle.rules.specs.Words.{Certificate, Tally, Moment, certificate_of, of_block, same_block, grown, join, join_certificate}
use Rattle.laws.proofs.Tests.{by_bool}

-- tallies of the same blocks with the same voters
abbrev Alike : List Tally → List Tally → Type 0
Alike [] [] = Unit {0}
Alike [] (v ∷ vs) = ⊥
Alike (u ∷ us) [] = ⊥
Alike (u ∷ us) (v ∷ vs) = (certificate_of u ≡ certificate_of v) × Alike us vs

alike_self : (us : List Tally) → Alike us us
alike_self [] = tt
alike_self (u ∷ us) = (refl, alike_self us)

alike_length : (us vs : List Tally) → Alike us vs → length us ≡ length vs
alike_length [] [] h = refl
alike_length [] (v ∷ vs) h = absurd h
alike_length (u ∷ us) [] h = absurd h
alike_length (u ∷ us) (v ∷ vs) h = ap suc (alike_length us vs h.1)

module _ (k j : Moment) (t : Certificate) where
  grown_alike : (u v : Tally) (m : ℕ) → certificate_of u ≡ certificate_of v → certificate_of (grown k u m) ≡ certificate_of (grown j v m)
  unfolding grown
  grown_alike u v m e = ap (λ (c : Certificate). record { view = c.view; height = c.height; name = c.name; mask = joined c.mask m }) e

  join_alike : (us vs : List Tally) → Alike us vs → Alike (join k t us) (join j t vs)
  unfolding join
  join_alike [] [] h = (refl, tt)
  join_alike [] (v ∷ vs) h = absurd h
  join_alike (u ∷ us) [] h = absurd h
  join_alike (u ∷ us) (v ∷ vs) h =
      let e : of_block t v ≡ of_block t u = ap (same_block t) (sym h.0) in
      by_bool (of_block t u) (λ q. rw (q, join, e ∙ q, join) (grown_alike u v t.mask h.0, h.1))
      (λ q. rw (q, join, e ∙ q, join) (h.0, join_alike us vs h.1))

  certificate_alike : (us : List Tally) → Alike (join_certificate k t us) (join_certificate j t us)
  unfolding join_certificate
  certificate_alike us = by_bool (eqb t.view 0) (λ q. rw (q, join_certificate) (alike_self us)) (λ q. rw (q, join_certificate) (join_alike us us (alike_self us)))

module _ (k j : Moment) (t u : Certificate) (us : List Tally) where
  pub certificate_length : length (join_certificate k t us) ≡ length (join_certificate j t us)
  certificate_length = alike_length (join_certificate k t us) (join_certificate j t us) (certificate_alike k j t us)

  pub both_length : length (join k u (join_certificate k t us)) ≡ length (join j u (join_certificate j t us))
  both_length =
      alike_length (join k u (join_certificate k t us)) (join j u (join_certificate j t us))
      (join_alike k j u (join_certificate k t us) (join_certificate j t us) (certificate_alike k j t us))
