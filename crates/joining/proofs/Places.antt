-- Joining by the place that a search found. Assumes nothing.
use Prim.Native.Nat.{ℕ, suc, ◌+◌, ◌-◌, ◌≤◌}
use mathlib.Core.Path.{◌≡◌, refl, sym, ap, ◌∙◌, subst}
use mathlib.Core.Bool.{Bool, true, false}
use mathlib.Core.List.{List, [], ◌∷◌, ◌++◌}
use native.Mathlib.Omega.{arith}
use native.Mathlib.Nat.{add-zero, zero-add}
use lib.ListN.{length}
use Rattle.rules.specs.Words.{Certificate, Moment, Tally, opened, same_block, of_block, grown, join}
use Rattle.laws.proofs.Tests.{eqb_self}
use Rattle.store.specs.Searches.{pick, first_from}
use Rattle.records.specs.Changes.{change_at}
use Rattle.std.specs.Prelude.{Option, Some, None}

module _ (k : Moment) (t : Certificate) where
  abbrev Joins : ℕ → List Tally → Option ℕ → Type 0
  Joins i us None = join k t us ≡ us ++ opened k t ∷ []
  Joins i us (Some j) = (i ≤ j) × (join k t us ≡ change_at (λ u. grown k u t.mask) (j - i) us)

  joins : (i : ℕ) (us : List Tally) → Joins i us (first_from (of_block t) i us)
  unfolding first_from join change_at
  joins i [] = refl
  joins i (u ∷ us) = go (of_block t u) (first_from (of_block t) (suc i) us) refl (joins (suc i) us)
    where
      go : (b : Bool) (r : Option ℕ) → of_block t u ≡ b → Joins (suc i) us r → Joins i (u ∷ us) (pick b (Some i) r)
      go true r e h = (omega arith, let z : i - i ≡ 0 = omega arith in rw (e, join, z))
      go false None e h = rw (e, join) (ap (u ∷◌) h)
      go false (Some j) e h = (omega (arith, h.0), let z : j - i ≡ suc (j - suc i) = omega (arith, h.0) in rw (e, join, z) (ap (u ∷◌) h.1))

  pub join_found : (us : List Tally) (j : ℕ) → first_from (of_block t) 0 us ≡ Some j → join k t us ≡ change_at (λ u. grown k u t.mask) j us
  join_found us j q = let z : j - 0 ≡ j = omega arith in (subst (Joins 0 us) q (joins 0 us)).1 ∙ ap (λ (n : ℕ). change_at (λ u. grown k u t.mask) n us) z

  pub join_missing : (us : List Tally) → first_from (of_block t) 0 us ≡ None → join k t us ≡ us ++ opened k t ∷ []
  join_missing us q = subst (Joins 0 us) q (joins 0 us)

  -- where a block's tally stands once it is joined: where it was found, or behind the others
  abbrev Stays : ℕ → List Tally → Option ℕ → Type 0
  Stays i us None = first_from (of_block t) i (join k t us) ≡ Some (i + length us)
  Stays i us (Some j) = first_from (of_block t) i (join k t us) ≡ Some j

  stays : (i : ℕ) (us : List Tally) → Stays i us (first_from (of_block t) i us)
  unfolding first_from join same_block grown
  stays i [] = rw (eqb_self t.view, eqb_self t.height, eqb_self t.name) (ap Some (sym (add-zero i)))
  stays i (u ∷ us) = go (of_block t u) (first_from (of_block t) (suc i) us) refl (stays (suc i) us)
    where
      go : (b : Bool) (r : Option ℕ) → of_block t u ≡ b → Stays (suc i) us r → Stays i (u ∷ us) (pick b (Some i) r)
      go true r e h = rw (e, join, e)
      go false None e h = rw (e, join, e) (h ∙ ap Some (omega arith))
      go false (Some j) e h = rw (e, join, e) h

  pub joined_found : (us : List Tally) (j : ℕ) → first_from (of_block t) 0 us ≡ Some j → first_from (of_block t) 0 (join k t us) ≡ Some j
  joined_found us j q = subst (Stays 0 us) q (stays 0 us)

  pub joined_missing : (us : List Tally) → first_from (of_block t) 0 us ≡ None → first_from (of_block t) 0 (join k t us) ≡ Some (length us)
  joined_missing us q = subst (Stays 0 us) q (stays 0 us) ∙ ap Some (zero-add (length us))
