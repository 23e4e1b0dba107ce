-- How what the check told is copied into a table of places. Assumes nothing.
use Prim.Native.Nat.{ℕ, ◌+◌, ◌-◌, ◌<◌}
use mathlib.Core.Path.{◌≡◌, refl, ◌∙◌, subst}
use mathlib.Core.List.{List}
use native.Mathlib.Omega.{arith}
use native.Mathlib.Decide.{dec_lt}
use lib.ListN.{length, get_or, set}
use lib.Seq.{get_or-set_same, get_or-set_other}
use Rattle.walks.specs.Chains.{Lowered}

module _ (from to : List ℕ) where
  pub lowered_none : Lowered from to to 0
  lowered_none = record { within = λ k l. absurd (omega arith); above = λ k l. refl }

  pub lowered_next : (left : List ℕ) (k : ℕ) → k < length left → Lowered from to left k → Lowered from to (set left k (get_or from k 0 - 1)) (k + 1)
  lowered_next left k l c = record {
    within = λ j m.
        elim (dec_lt j k) [
          | yes u ↦ get_or-set_other left k j (get_or from k 0 - 1) 0 (λ z. omega arith) ∙ c.within j u
          | no u ↦ (let z : k ≡ j = omega arith in subst (λ (j : ℕ). get_or (set left k (get_or from k 0 - 1)) j 0 ≡ get_or from j 0 - 1) z (get_or-set_same left k (get_or from k 0 - 1) 0 l))
        ];
    above = λ j m. get_or-set_other left k j (get_or from k 0 - 1) 0 (λ z. omega arith) ∙ c.above j (omega arith);
  }

  pub lowered_end : (left : List ℕ) (k end : ℕ) → k ≡ end → Lowered from to left k → Lowered from to left end
  lowered_end left k end e c = subst (Lowered from to left) e c
