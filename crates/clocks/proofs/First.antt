-- The clock that a tally keeps is the first at which it had a quorum, along any run from fresh. Assumes nothing.
use mathlib.Core.Path.{◌≡◌, subst, refl, sym, ap, ◌∙◌}
use mathlib.Core.Logic.{inl, inr}
use Prim.Native.Nat.{ℕ, zero, suc, ◌≤◌}
use native.Mathlib.Omega.{arith}
use native.Mathlib.Decide.{dec_lt}
use mathlib.Core.Bool.{true, false}
use mathlib.Core.List.{[]}
use mathlib.Core.Option.{none, some, some-injective}
use Rattle.rules.specs.Sizes.{Settings}
use Rattle.rules.specs.Words.{Certificate, reached_of, State, fresh}
use Rattle.rules.specs.Script.{Input}
use Rattle.laws.proofs.Tests.{by_option, no_some, no_bool}
use Rattle.clocks.specs.Runs.{after, is_there, kept_at, has_quorum, First, KeepsFirst}
use Rattle.clocks.proofs.Joins.{Goes, goes_some, Marked, none_marked}
use Rattle.clocks.proofs.Calls.{Clocked, answer_clocked}

-- states that begin without tallies, each what a call left of the one before
module _ (state : ℕ → State) (q : Certificate) (start : (state 0).tallies ≡ []) (next : (k : ℕ) → Clocked (state k) (state (suc k))) where
  marked : (k : ℕ) → Marked (state k).settings q (state k).tallies
  marked zero = rw start (none_marked (state 0).settings q)
  marked (suc k) = let n = next k in subst (λ (h : Settings). Marked h q (state (suc k)).tallies) (sym n.settings) ((n.block q).1 (marked k))

  there_exactly : (k : ℕ) → is_there (kept_at state q k) ≡ has_quorum state q k
  unfolding has_quorum
  there_exactly k = marked k

  -- a kept clock never moves
  stays_one : (k c : ℕ) → kept_at state q k ≡ some c → kept_at state q (suc k) ≡ some c
  stays_one k c e = goes_some ((next k).block q).0 e

  pub never_moves : (k m c : ℕ) → k ≤ m → kept_at state q k ≡ some c → kept_at state q m ≡ some c
  never_moves k zero c l e = let z : k ≡ 0 = omega arith in rw z at e
  never_moves k (suc m) c l e =
      elim (dec_lt k (suc m)) [
        | yes h ↦ stays_one m c (never_moves k m c (omega arith) e)
        | no h ↦ (let z : k ≡ suc m = omega arith in rw z at e)
      ]

  none_first : kept_at state q 0 ≡ none
  unfolding reached_of
  none_first = rw start

  no_clock : (k : ℕ) → kept_at state q k ≡ none → has_quorum state q k ≡ false
  unfolding is_there
  no_clock k e = sym (there_exactly k) ∙ ap is_there e

  a_clock : (k c : ℕ) → kept_at state q k ≡ some c → has_quorum state q k ≡ true
  unfolding is_there
  a_clock k c e = sym (there_exactly k) ∙ ap is_there e

  -- while none is kept, there was no quorum
  pub none_never : (k : ℕ) → kept_at state q k ≡ none → (j : ℕ) → j ≤ k → has_quorum state q j ≡ false
  none_never zero e j l = let z : j ≡ 0 = omega arith in rw z (no_clock 0 e)
  none_never (suc k) e j l =
      elim (dec_lt j (suc k)) [
        | yes m ↦ none_never k (go ((next k).block q).0) j (omega arith)
        | no m ↦ (let z : j ≡ suc k = omega arith in rw z (no_clock (suc k) e))
      ]
    where
      go : Goes (state (suc k)).clock (kept_at state q k) (kept_at state q (suc k)) → kept_at state q k ≡ none
      go (inl a) = sym a ∙ e
      go (inr (n, a)) = n

  -- the clock that is kept is the first
  is_first_lem : (k c : ℕ) → kept_at state q k ≡ some c → First state q k c
  is_first_lem zero c e = no_some (sym none_first ∙ e)
  is_first_lem (suc k) c e = go ((next k).block q).0 (λ a. is_first_lem k c (sym a ∙ e))
    where
      go : Goes (state (suc k)).clock (kept_at state q k) (kept_at state q (suc k))
          → (kept_at state q (suc k) ≡ kept_at state q k → First state q k c) → First state q (suc k) c
      go (inl a) h =
          let f = h a in
          let w = f.within in
          record { inputs = f.inputs; within = omega arith; there = f.there; not_before = f.not_before; clock = f.clock }
      go (inr (n, a)) h =
          record {
            inputs = suc k;
            within = omega arith;
            there = a_clock (suc k) c e;
            not_before = λ j l. none_never k n j (omega arith);
            clock = some-injective _ _ (sym a ∙ e);
          }

  -- and the first is kept, from then on
  first_is_lem : (k c : ℕ) → First state q k c → kept_at state q k ≡ some c
  first_is_lem k c f =
      by_option (kept_at state q m) (λ e. no_bool (sym f.there ∙ no_clock m e)) λ d e.
      let h = is_first_lem m d e in
      let a = h.within in
      let w = f.within in
      elim (dec_lt h.inputs m) [
        | yes l ↦ no_bool (sym h.there ∙ f.not_before h.inputs l)
        | no l ↦ (
            let z : h.inputs ≡ m = omega arith in
            let s : d ≡ c = sym h.clock ∙ ap (λ (i : ℕ). (state i).clock) z ∙ f.clock in
            never_moves m k c w (e ∙ ap some s))
      ]
    where
      m : ℕ
      m = f.inputs

  pub keeps_first : KeepsFirst state q
  keeps_first = record { exactly = there_exactly; is_first = is_first_lem; first_is = first_is_lem }

-- the run of the rules from fresh, of any inputs
pub first_clock : (g : Settings) (input : ℕ → Input) (q : Certificate) → KeepsFirst (after (fresh g) input) q
unfolding after fresh
first_clock g input q = keeps_first (after (fresh g) input) q refl (λ k. answer_clocked (input k) (after (fresh g) input k))
