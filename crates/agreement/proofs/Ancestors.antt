-- G6: behind a sound vote stand sound stations that sent to all, no later, a propose of the block and of each of its ancestors. Assumes nothing.
use mathlib.Core.Path.{◌≡◌, subst, subst₂, refl, sym, ◌∙◌}
use Prim.Native.Nat.{ℕ, zero, suc, ◌-◌, ◌≤◌, ◌<◌}
use native.Mathlib.Omega.{arith}
use mathlib.Core.Bool.{false}
use mathlib.Core.Logic.{◌⊎◌, inl, inr}
use Rattle.rules.specs.Messages.{to_all}
use Rattle.rules.specs.Words.{Statement, message}
use Rattle.laws.proofs.Tests.{by_bool}
use Rattle.laws.proofs.Kept.{moves_fixed}
use Rattle.agreement.proofs.Lineage.{up}
use Rattle.agreement.proofs.Group.{Group, ck, Ok, SaidAt, begun_at}
use Rattle.agreement.proofs.Behind.{SoundVote}
use Rattle.agreement.proofs.Rank.{Step, by_rank}

module _ (X : Group) where
  open X use {size, n, D, faulty, event, next, parent_of}

  -- by clock c a sound station sent all a propose of block b of height h
  abbrev pub Shown : ℕ → ℕ → ℕ → Type 0
  Shown c h b =
      (j : ℕ) × Ok X j × (c' : ℕ) × (c' ≤ c) × ((y : Statement) × (y.is_new_view ≡ false) × (y.height ≡ h) × (y.name ≡ b) × SaidAt X j c' (to_all (message y)))

  -- of b and each ancestor
  abbrev pub AllShown : ℕ → ℕ → ℕ → Type 0
  AllShown c h b = (d : ℕ) → d < h → Shown c (h - d) (up parent_of d b)

  shown_later : (c c' h b : ℕ) → c ≤ c' → AllShown c h b → AllShown c' h b
  shown_later c c' h b l f d e = let (j, ok, a, q, y) = f d e in (j, ok, a, omega arith, y)

  -- a block and its parent's ancestors
  shown_up : (c h b p : ℕ) → parent_of b ≡ p → Shown c (suc h) b → AllShown c h p → AllShown c (suc h) b
  unfolding up
  shown_up c h b p e s f zero l = let z : suc h - 0 ≡ suc h = omega arith in subst (λ (x : ℕ). Shown c x b) (sym z) s
  shown_up c h b p e s f (suc d) l =
      let z : suc h - suc d ≡ h - d = omega arith in
      subst₂ (λ (x q : ℕ). Shown c x (up parent_of d q)) (sym z) (sym e) (f d (omega arith))

  abbrev Claim : (c v h b : ℕ) → Type 0
  Claim c v h b = AllShown c h b

  -- one vote, from those behind it: its voter showed the statement
  one_vote : Step X Claim (λ c d v h b l f. shown_later c d h b l f)
  one_vote i ok k v h b g lower under = by_bool w.is_new_view (λ e. new (g.behind.1 e)) (λ e. old e (g.behind.0 e))
    where
      w : Statement
      w = g.cast.stands.what

      c : ℕ
      c = ck X (suc k)

      new : (w.link < w.view) × (((w.link ≡ 0) × (w.height ≡ 0)) ⊎ SoundVote X c w.link w.height w.name) → AllShown c w.height w.name
      new (l, inl (z, y)) d q = absurd (omega arith)
      new (l, inr s) d q = lower w.link w.height w.name l c s d q

      old : w.is_new_view ≡ false → (h' : ℕ) × (w.height ≡ suc h') × (parent_of w.name ≡ w.link) × SoundVote X c w.view h' w.link → AllShown c w.height w.name
      old e (h', q, p, s) =
          let now : g.cast.at.clock ≡ c = (moves_fixed g.cast.before).1 ∙ begun_at X i ok k in
          let said = subst (λ (z : ℕ). SaidAt X i z (to_all (message w))) now g.cast.stands.said in
          let own : Shown c (suc h') w.name = (i, ok, c, omega arith, (w, e, q, refl, said)) in
          subst (λ (z : ℕ). AllShown c z w.name) (sym q) (shown_up c h' w.name w.link p own (under h' w.link q c s))

  pub ancestors : (c v h b : ℕ) → SoundVote X c v h b → AllShown c h b
  ancestors c v h b = by_rank X Claim (λ c d v h b l f. shown_later c d h b l f) one_vote v h b c
