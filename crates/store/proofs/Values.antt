-- Each number of the store is one value's, and each value one number's. Assumes nothing.
use Prim.Native.Nat.{ℕ, zero, suc, ◌+◌, ◌-◌, ◌≤◌}
use mathlib.Core.Path.{◌≡◌, refl, sym, ap}
use mathlib.Core.Bool.{Bool, true, false}
use mathlib.Core.List.{List}
use native.Mathlib.Omega.{arith}
use lib.Dec.{leb, eqb}
use borrow.Author.Tests.{leb-true}
use Rattle.rules.specs.Lists.{within}
use Rattle.laws.proofs.Tests.{no_bool, and_right}
use Rattle.rules.specs.Limits.{Size}
use Rattle.fields.specs.Places.{number}
use Rattle.store.specs.Layout.{tally_table, place_of}
use Rattle.rules.specs.Words.{is_author, Phase, in_view, waiting, stopped, full, split, clock, Statement, Tally}
use Rattle.store.specs.Decode.{phase_of, phase_number, kind_number, statement_at, tally_for, opener_for, vote_at, statement_from, statement_values, tally_from, tally_values}
use Rattle.tallies.specs.Values.{vote_of}
use Rattle.tallies.proofs.Values.{number_vote, author_is}

pub phase_waiting : (k : ℕ) → 4 ≤ k → waiting (k - 4) ≡ phase_of k
phase_waiting zero h = absurd (omega arith)
phase_waiting (suc zero) h = absurd (omega arith)
phase_waiting (suc (suc zero)) h = absurd (omega arith)
phase_waiting (suc (suc (suc zero))) h = absurd (omega arith)
phase_waiting (suc (suc (suc (suc q)))) h = ap waiting (omega arith)

pub phase_number_lem : (k : ℕ) → phase_number (phase_of k) ≡ k
phase_number_lem zero = refl
phase_number_lem (suc zero) = refl
phase_number_lem (suc (suc zero)) = refl
phase_number_lem (suc (suc (suc zero))) = refl
phase_number_lem (suc (suc (suc (suc q)))) = refl

pub number_phase : (p : Phase) → phase_of (phase_number p) ≡ p
number_phase in_view = refl
number_phase (waiting q) = refl
number_phase (stopped full) = refl
number_phase (stopped split) = refl
number_phase (stopped clock) = refl

pub opener_is : (z : Size) (b : List ℕ) (a i : ℕ) → is_author a (tally_for z b i).opener ≡ eqb (suc a) (opener_for z b i)
unfolding tally_for opener_for
opener_is z b a i = author_is a (number b (place_of tally_table z i + 42) 1)

pub kind_number_lem : (k : ℕ) → within 1 2 k ≡ true → kind_number (eqb k 1) ≡ k
unfolding within
kind_number_lem zero h = no_bool (sym h)
kind_number_lem (suc zero) h = refl
kind_number_lem (suc (suc zero)) h = refl
kind_number_lem (suc (suc (suc k))) h = absurd (omega (arith, leb-true (suc (suc (suc k))) 2 (and_right (leb 1 (suc (suc (suc k)))) _ h)))

pub number_kind : (b : Bool) → (within 1 2 (kind_number b) ≡ true) × (eqb (kind_number b) 1 ≡ b)
unfolding within
number_kind true = (refl, refl)
number_kind false = (refl, refl)

-- the vote of a record is that of its number
pub voted_is : (b : List ℕ) (i : ℕ) → (statement_at b i).voted ≡ vote_of (vote_at b i)
unfolding statement_at vote_at
voted_is b i = refl

-- a record's numbers are read back as what they were written for
pub tally_back : (t : Tally) → tally_from (tally_values t) ≡ t
tally_back t = λ i. record { view = t.view; height = t.height; name = t.name; mask = t.mask; opener = number_vote t.opener i; reached = number_vote t.reached i }

pub statement_back : (x : Statement) → statement_from (statement_values x) ≡ x
statement_back x = λ i. record {
  is_new_view = (number_kind x.is_new_view).1 i;
  view = x.view;
  height = x.height;
  name = x.name;
  link = x.link;
  mask = x.mask;
  author = x.author;
  voted = number_vote x.voted i;
}
