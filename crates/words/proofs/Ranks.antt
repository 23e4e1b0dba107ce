-- What decides a rank. Assumes nothing.
use Prim.Native.Nat.{ℕ, ◌<◌, ◌≤◌}
use mathlib.Core.Bool.{Bool, true, false, not, ◌&&◌, ◌||◌}
use mathlib.Core.Path.{◌≡◌, refl, sym}
use native.Mathlib.Omega.{arith}
use native.Mathlib.Decide.{dec_lt}
use lib.Dec.{ltb}
use borrow.Author.Tests.{eq-eqb, ne_eqb, lt-ltb, le-ltb}
use Rattle.rules.specs.Words.{Certificate, below, higher}

or_no : (a : Bool) → a ≡ a || false
or_no true = refl
or_no false = refl

module _ (t u : Certificate) where
  pub rank_view : (t.view ≡ u.view → ⊥) → ltb t.view u.view ≡ below t u
  unfolding below
  rank_view d = simp (ne_eqb _ _ d) (or_no (ltb t.view u.view))

  pub rank_height : t.view ≡ u.view → ltb t.height u.height ≡ below t u
  unfolding below
  rank_height e = let l : u.view ≤ t.view = omega arith in simp (eq-eqb _ _ e, le-ltb _ _ l)

-- `higher`, where it is known which ranks below
abbrev higher_if : Bool → Bool → Bool → Bool
higher_if above under name = above || not under && name

abbrev higher_by : Certificate → Certificate → Bool
higher_by t u = higher_if (below u t) (below t u) (ltb t.name u.name)

-- of two certificates of different rank the one that ranks above is higher; of one rank the one with the smaller name
module _ (t u : Certificate) where
  by_rank : higher t u ≡ higher_by t u
  unfolding higher
  by_rank = refl

  apart : (a b : ℕ) → (a ≡ b → ⊥) → ltb b a ≡ below u t → ltb a b ≡ below t u → ltb b a ≡ higher t u
  apart a b d p q =
      elim (dec_lt a b) [
        | yes l ↦ (let m : a ≤ b = omega arith in rw (by_rank, ← p, ← q, le-ltb b a m, lt-ltb a b l))
        | no l ↦ (let m : b < a = omega (arith, d) in rw (by_rank, ← p, lt-ltb b a m))
      ]

  pub higher_view : (t.view ≡ u.view → ⊥) → ltb u.view t.view ≡ higher t u
  higher_view d = apart t.view u.view d (rank_view u t (λ e. d (sym e))) (rank_view t u d)

  pub higher_height : t.view ≡ u.view → (t.height ≡ u.height → ⊥) → ltb u.height t.height ≡ higher t u
  higher_height e d = apart t.height u.height d (rank_height u t (sym e)) (rank_height t u e)

  pub higher_name : t.view ≡ u.view → t.height ≡ u.height → ltb t.name u.name ≡ higher t u
  higher_name e d =
      let m : t.height ≤ u.height = omega arith in
      let n : u.height ≤ t.height = omega arith in
      rw (by_rank, ← rank_height u t (sym e), ← rank_height t u e, le-ltb _ _ m, le-ltb _ _ n)
