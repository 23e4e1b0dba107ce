-- The numbers of a tally: each is one value's, and each value one number's. Assumes nothing.
use Prim.Native.Nat.{ℕ, zero, suc, ◌+◌, ◌-◌, ◌<◌, ◌≤◌, ◌^◌}
use native.Mathlib.Numerals.{add-one}
use mathlib.Core.Path.{◌≡◌, refl, sym, ap, ◌∙◌}
use mathlib.Core.Bool.{true, false}
use mathlib.Core.Option.{Option, none, some}
use native.Mathlib.Omega.{arith}
use lib.Dec.{eqb}
use borrow.Author.Tests.{eqb-true, eqb-false, eq-eqb, ne_eqb}
use Rattle.laws.proofs.Tests.{by_bool}
use Rattle.rules.specs.Sizes.{quorum, only}
use Rattle.rules.specs.Words.{Moment, reached_at, is_author}
use Rattle.std.specs.Prelude.{Option as Told, Some, None, SomeIff}
use Rattle.tallies.specs.Values.{told, vote_of, vote_number, opener_of}
use lib.Pow.{pow-lt}
use Rattle.rules.specs.Limits.{mask_bits, last_clock}

pub vote_number_lem : (k : ℕ) → vote_number (vote_of k) ≡ k
vote_number_lem zero = refl
vote_number_lem (suc c) = refl

pub number_vote : (v : Option ℕ) → vote_of (vote_number v) ≡ v
number_vote none = refl
number_vote (some c) = refl

-- the code reads what may be missing from one less than its number
pub told_less : (r : Told ℕ) (n : ℕ) → SomeIff r (1 ≤ n) (n - 1) → told r ≡ vote_of n
told_less None zero h = refl
told_less None (suc c) h = absurd (h (omega arith))
told_less (Some x) zero h = absurd (omega (arith, h.0))
told_less (Some x) (suc c) h = ap some (omega (arith, h.1))

-- and the number from what it reads
module _ (r : Told ℕ) (n : ℕ) (e : told r ≡ vote_of n) where
  number_is : n ≡ vote_number (told r)
  number_is = sym (vote_number_lem n) ∙ ap vote_number (sym e)

  pub number_some : (x : ℕ) → r ≡ Some x → n ≡ x + 1
  number_some x s = number_is ∙ ap (λ (q : Told ℕ). vote_number (told q)) s ∙ sym (add-one x)

  pub number_none : r ≡ None → n ≡ 0
  number_none s = number_is ∙ ap (λ (q : Told ℕ). vote_number (told q)) s

-- the number of a clock that a tally keeps has its field's width
pub reached_fits : (k : Moment) (m : ℕ) (r : Option ℕ) → vote_number r < 256 ^ 4 → k.clock ≤ last_clock → vote_number (reached_at k r m) < 256 ^ 4
unfolding reached_at
reached_fits k m (some c) h l = h
reached_fits k m none h l = by_bool (quorum k.settings m) (λ q. rw (q, reached_at) (omega arith)) (λ q. rw (q, reached_at) (omega arith))

-- a tally's opener is an author where the record's number is one more
pub author_is : (a m : ℕ) → is_author a (opener_of m) ≡ eqb (suc a) m
unfolding is_author
author_is a zero = sym (ne_eqb (suc a) 0 (λ e. omega arith))
author_is a (suc c) =
    by_bool (eqb a c) (λ q. q ∙ sym (eq-eqb (suc a) (suc c) (ap suc (eqb-true a c q)))) (λ q. q ∙ sym (ne_eqb (suc a) (suc c) (λ e. eqb-false a c q (omega arith))))

-- one voter's mask has the width of a mask
pub voter_fits : (i : ℕ) → i < mask_bits → only i < 256 ^ 2
unfolding only
voter_fits i l = pow-lt {j = 16} (omega arith)
