-- How many tallies an author opened, counted from the last one down. Assumes nothing.
use Prim.Native.Nat.{ℕ, ◌+◌, ◌-◌, ◌<◌, ◌≤◌}
use mathlib.Core.Path.{◌≡◌, refl, sym, ap, ◌∙◌}
use mathlib.Core.List.{List, [], ◌∷◌}
use native.Mathlib.Omega.{arith}
use native.Mathlib.Nat.{sub-zero}
use lib.ListN.{length}
use mathlib.Core.Bool.{Bool, true, false}
use lib.Dec.{eqb}
use borrow.Author.Tests.{eqb-true, eqb-false, eq-eqb, ne_eqb}
use Rattle.rules.specs.Lists.{keep}
use Rattle.rules.specs.Words.{Tally, is_author, opened_by}
use Rattle.laws.proofs.Tests.{by_bool}
use Rattle.std.specs.Prelude.{Option as Told, Some, None}
use Rattle.std.specs.Option.{MatchOption}
use Rattle.tallies.specs.Values.{told, opener_of}
use Rattle.store.specs.Decode.{rows, tally_for, tally_at, opener_for, opener_at}
use Rattle.store.proofs.Rows.{rows_from, rows_length}

few : (a : ℕ) (ts : List Tally) → opened_by a ts ≤ length ts
unfolding opened_by keep
few a [] = omega arith
few a (t ∷ ts) = let h = few a ts in by_bool (is_author a t.opener) (λ q. rw (q, keep) (omega arith)) (λ q. rw (q, keep) (omega arith))

pub opened_few : (b : List ℕ) (a i n : ℕ) → opened_by a (rows (tally_at b) i n) ≤ n
opened_few b a i n = let h = few a (rows (tally_at b) i n) in let r = rows_length (tally_at b) i n in omega arith

-- none is counted where the count begins
pub opened_start : (b : List ℕ) (a i n : ℕ) → i ≡ n → 0 ≡ opened_by a (rows (tally_at b) i (n - i))
unfolding opened_by keep rows
opened_start b a i n e = let z : n - i ≡ 0 = omega arith in rw z

-- all are counted where it ends
pub opened_whole : (b : List ℕ) (a i n : ℕ) → i ≤ 0 → opened_by a (rows (tally_at b) i (n - i)) ≡ opened_by a (rows (tally_at b) 0 n)
opened_whole b a i n l = let e : i ≡ 0 = omega arith in rw (e, sub-zero)

-- who opened a tally, as the code tells it
module _ (b : List ℕ) (a i : ℕ) (o : Told ℕ) (e : told o ≡ opener_of (opener_at b i)) where
  asked : is_author a (tally_at b i).opener ≡ is_author a (told o)
  unfolding tally_for opener_for
  asked = ap (is_author a) (sym e)

  pub opened_some : (x y : ℕ) → o ≡ Some x → y ≡ x → eqb y a ≡ is_author a (tally_at b i).opener
  unfolding is_author
  opened_some x y s q = rw (asked, s, q) (by_bool (eqb x a) (λ t. t ∙ sym (eq-eqb a x (sym (eqb-true x a t)))) (λ f. f ∙ sym (ne_eqb a x (λ d. eqb-false x a f (sym d)))))

  pub opened_nobody : o ≡ None → false ≡ is_author a (tally_at b i).opener
  unfolding is_author
  opened_nobody s = rw (asked, s)

  pub opened_is : (s : Bool) → MatchOption o (s ≡ false) (λ x. s ≡ eqb x a) → s ≡ is_author a (tally_at b i).opener
  opened_is s = go o refl
    where
      go : (p : Told ℕ) → o ≡ p → MatchOption p (s ≡ false) (λ x. s ≡ eqb x a) → s ≡ is_author a (tally_at b i).opener
      go None q m = m ∙ opened_nobody q
      go (Some x) q m = m ∙ opened_some x x q refl

-- the tally below those counted from place i on
module _ (b : List ℕ) (a i n : ℕ) (z : 0 < i) (l : i ≤ n) where
  abbrev above : List Tally
  above = rows (tally_at b) i (n - i)

  below : rows (tally_at b) (i - 1) (n - (i - 1)) ≡ tally_at b (i - 1) ∷ above
  below = let q : i - 1 + 1 ≡ i = omega arith in rows_from (tally_at b) (i - 1) n (omega arith) ∙ rw q

  pub opened_one : is_author a (tally_at b (i - 1)).opener ≡ true → opened_by a above + 1 ≡ opened_by a (rows (tally_at b) (i - 1) (n - (i - 1)))
  unfolding opened_by keep
  opened_one q = rw (below, q, keep) (omega arith)

  pub opened_other : is_author a (tally_at b (i - 1)).opener ≡ false → opened_by a above ≡ opened_by a (rows (tally_at b) (i - 1) (n - (i - 1)))
  unfolding opened_by keep
  opened_other q = rw (below, q, keep)
