-- Induction on the rank of a sound vote: a claim holds of every sound vote if it holds of each that has it behind it, first in the views
-- below, then at the heights below in its view. Assumes nothing.
use mathlib.Core.Path.{◌≡◌, subst, sym, ◌∙◌}
use Prim.Native.Nat.{ℕ, zero, suc, ◌≤◌, ◌<◌}
use native.Mathlib.Omega.{arith}
use native.Mathlib.Decide.{dec_lt}
use Rattle.agreement.proofs.Group.{Group, ck, Ok}
use Rattle.agreement.proofs.Behind.{SoundVote, Grounds, grounds}

-- a claim of a vote (view, height, name) that was cast by a clock, and that holds later too
module _ (X : Group) (P : (c v h b : ℕ) → Type 0) (later : (c d v h b : ℕ) → c ≤ d → P c v h b → P d v h b) where
  abbrev pub Claim : (v h b : ℕ) → Type 0
  Claim v h b = (c : ℕ) → SoundVote X c v h b → P c v h b

  -- a vote's statement has the claim, from what stands behind it
  abbrev pub Step : Type 0
  Step =
      (i : ℕ) → Ok X i → (k v h b : ℕ) (g : Grounds X i k v h b) → let w = g.cast.stands.what in
      ((v' h' b' : ℕ) → v' < w.view → Claim v' h' b') → ((h' b' : ℕ) → w.height ≡ suc h' → Claim w.view h' b')
      → P (ck X (suc k)) w.view w.height w.name

  module _ (step : Step) where
    one_vote : (i : ℕ) → Ok X i → (k v h b : ℕ) (g : Grounds X i k v h b) → ((v' h' b' : ℕ) → v' < v → Claim v' h' b')
        → ((h' b' : ℕ) → h ≡ suc h' → Claim v h' b') → P (ck X (suc k)) v h b
    one_vote i ok k v h b g lower under =
        let y = g.cast.stands in
        let w = y.what in
        subst (λ (z : ℕ). P (ck X (suc k)) v h z) y.name
        (subst (λ (z : ℕ). P (ck X (suc k)) v z w.name) y.height
        (subst (λ (z : ℕ). P (ck X (suc k)) z w.height w.name) y.view
        (step i ok k v h b g (λ v' h' b' l. lower v' h' b' (subst (λ (z : ℕ). v' < z) y.view l))
        (λ h' b' e. subst (λ (z : ℕ). Claim z h' b') (sym y.view) (under h' b' (sym y.height ∙ e))))))

    by_height : (U : ℕ) → ((v h b : ℕ) → v < U → Claim v h b) → (H h b : ℕ) → h < H → Claim U h b
    by_height U lower zero h b l c s = absurd (omega arith)
    by_height U lower (suc H) h b l c (i, k, ok, q, m) =
        later (ck X (suc k)) c U h b q
        (one_vote i ok k U h b (grounds X i ok k U h b i m) lower (λ h' b' e. by_height U lower H h' b' (omega arith)))

    by_view : (U v h b : ℕ) → v < U → Claim v h b
    by_view zero v h b l = absurd (omega arith)
    by_view (suc U) v h b l =
        elim (dec_lt v U) [
          | yes d ↦ by_view U v h b d
          | no d ↦ (
              let e : U ≡ v = omega arith in subst (λ (z : ℕ). Claim z h b) e (by_height U (by_view U) (suc h) h b (omega arith)))
        ]

    pub by_rank : (v h b : ℕ) → Claim v h b
    by_rank v h b = by_view (suc v) v h b (omega arith)
