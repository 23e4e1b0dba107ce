-- G4: every sound vote that ranks at or above a ripe propose is for a block that extends it. Assumes nothing.
use mathlib.Core.Path.{◌≡◌, subst, refl, sym, ◌∙◌}
use Prim.Native.Nat.{ℕ, suc, ◌+◌, ◌≤◌, ◌<◌}
use native.Mathlib.Omega.{arith}
use native.Mathlib.Decide.{dec_lt}
use mathlib.Core.Bool.{true, false}
use mathlib.Core.Logic.{◌⊎◌, inl, inr}
use Rattle.rules.specs.Words.{Statement, conflict, certificate}
use Rattle.laws.proofs.Tests.{by_bool}
use Rattle.laws.proofs.Statements.{no_conflict_propose, no_conflict_new_view}
use Rattle.laws.proofs.Tallies.{AtLeast, at_least_trans, not_below}
use Rattle.agreement.proofs.Lineage.{up}
use Rattle.agreement.proofs.Group.{Group, ck}
use Rattle.agreement.proofs.Ripe.{Ripe, ripe_view, no_rival, cast_lock}
use Rattle.agreement.proofs.Behind.{SoundVote}
use Rattle.agreement.proofs.Rank.{Step, by_rank}

module _ (X : Group) (r k0 t : ℕ) (x : Statement) (R : Ripe X r k0 t x) where
  open X use {size, n, D, faulty, event, next, parent_of}

  -- the block b of height h has x's block as an ancestor, or is it
  abbrev pub Extends : ℕ → ℕ → Type 0
  Extends h b = (d : ℕ) × (h ≡ d + x.height) × (up parent_of d b ≡ x.name)

  -- ranks at or above x
  abbrev pub NotBelow : ℕ → ℕ → Type 0
  NotBelow v h = AtLeast v h x.view x.height

  extends_up : (k h b p : ℕ) → k ≡ suc h → parent_of b ≡ p → Extends h p → Extends k b
  unfolding up
  extends_up k h b p l e (d, q, u) = (suc d, omega arith, rw e u)

  extends_here : (h b : ℕ) → h ≡ x.height → b ≡ x.name → Extends h b
  unfolding up
  extends_here h b z e = (0, omega arith, e)

  certificate_rank : (w : Statement) → w.is_new_view ≡ true → ((certificate w).view ≡ w.link) × ((certificate w).height ≡ w.height)
  unfolding certificate
  certificate_rank w k = rw k (refl, refl)

  abbrev Claim : (c v h b : ℕ) → Type 0
  Claim c v h b = NotBelow v h → Extends h b

  -- one vote, from those behind it
  one_vote : Step X Claim (λ c d v h b l p. p)
  one_vote i ok k v h b g lower under = by_bool w.is_new_view (λ e a. new e a) (λ e a. old e a (g.behind.0 e))
    where
      w : Statement
      w = g.cast.stands.what

      c : ℕ
      c = ck X (suc k)

      -- it doesn't conflict with x, and in a later view the lock is at or above x
      calm : w.view ≡ x.view → conflict x w ≡ false
      calm e = no_rival X r k0 t x R i ok k v h b g.cast (sym g.cast.stands.view ∙ e)

      locked : x.view < w.view → NotBelow g.cast.at.lock.view g.cast.at.lock.height
      locked l = cast_lock X r k0 t x R i ok k v h b g.cast (subst (λ (z : ℕ). x.view < z) (g.cast.stands.view ∙ sym g.cast.stands.current) l)

      -- a new-view is for the block of its certificate
      certified : 1 ≤ x.view → NotBelow w.link w.height → (w.link < w.view) × (((w.link ≡ 0) × (w.height ≡ 0)) ⊎ SoundVote X c w.link w.height w.name)
          → Extends w.height w.name
      certified pos (inl l) (lt, inl (z, y)) = absurd (omega arith)
      certified pos (inr l) (lt, inl (z, y)) = absurd (omega arith)
      certified pos l (lt, inr e) = lower w.link w.height w.name lt c e l

      new : w.is_new_view ≡ true → NotBelow w.view w.height → Extends w.height w.name
      new e (inl l) =
          let d = certificate_rank w e in
          let f = rw (d.0, d.1) at (not_below (certificate w) g.cast.at.lock (g.cast.stands.lock e)) in
          certified (ripe_view X r k0 t x R) (at_least_trans _ _ _ _ _ _ f (locked l)) (g.behind.1 e)
      new e (inr l) = let z = no_conflict_new_view x w (calm l.0) l.0 R.kind e in absurd (omega arith)

      -- a propose is for a child of the block that its certificate is of, or is x's block
      old : w.is_new_view ≡ false → NotBelow w.view w.height
          → (h' : ℕ) × (w.height ≡ suc h') × (parent_of w.name ≡ w.link) × SoundVote X c w.view h' w.link → Extends w.height w.name
      old e (inl l) (h', q, p, s) = extends_up w.height h' w.name w.link q p (under h' w.link q c s (inl l))
      old e (inr l) (h', q, p, s) =
          elim (dec_lt x.height w.height) [
            | yes d ↦ extends_up w.height h' w.name w.link q p (under h' w.link q c s (inr (l.0, omega arith)))
            | no d ↦ (
                let z : w.height ≡ x.height = omega arith in
                extends_here w.height w.name z (no_conflict_propose x w (calm l.0) l.0 R.kind e z))
          ]

  pub extends : (c v h b : ℕ) → SoundVote X c v h b → NotBelow v h → Extends h b
  extends c v h b = by_rank X Claim (λ c d v h b l p. p) one_vote v h b c
