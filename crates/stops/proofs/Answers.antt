-- Outcomes as they stand in the buffers. Assumes nothing.
use Prim.Native.Nat.{ℕ, ◌*◌, ◌^◌, ◌≤◌}
use mathlib.Core.Path.{◌≡◌, refl, sym, ◌∙◌, subst}
use mathlib.Core.List.{List}
use native.Mathlib.Nat.{add-zero}
use native.Mathlib.Omega.{arith}
use lib.ListN.{length}
use Rattle.rules.specs.Messages.{outgoing}
use Rattle.rules.specs.Words.{State}
use Rattle.rules.specs.Refusals.{Outcome, refused, result}
use Rattle.outgoing.specs.Wrote.{wrote}
use Rattle.store.specs.Decode.{state_of, Form, Left}
use Rattle.stops.specs.Answers.{Answers, Mutely}

module _ {x : Outcome} {o b' o' : List ℕ} {r : ℕ} where
  pub answers_is : {y : Outcome} → x ≡ y → Answers x o b' o' r → Answers y o b' o' r
  answers_is e a = subst (λ (z : Outcome). Answers z o b' o' r) e a

-- a refusal that leaves any state says nothing
pub refused_mutely : (k : ℕ) {s : State} {b' : List ℕ} {r : ℕ} → Left b' s → r ≡ k * 2 ^ 32 → Mutely (refused k s) b' r
unfolding refused outgoing wrote result
refused_mutely k l e o = record { left = l; out = refl; told = e ∙ sym (add-zero (k * 2 ^ 32)) }

pub refused_short : (k : ℕ) (s : State) {n : ℕ} → length (outgoing (refused k s).out) ≤ n
unfolding refused outgoing
refused_short k s = omega arith

pub refused_answers : (k : ℕ) {b : List ℕ} {r : ℕ} → Form b → r ≡ k * 2 ^ 32 → Mutely (refused k (state_of b)) b r
refused_answers k f e = refused_mutely k (record { form = f; is = refl }) e
