-- Behind every sound vote stands a statement, and behind its certificate a sound vote that is no later: for a propose the parent
-- in the same view, for a new-view the same block in an earlier view, down to genesis in view 0. Assumes nothing.
use mathlib.Core.Path.{◌≡◌, subst, refl, sym, ◌∙◌}
use Prim.Native.Nat.{ℕ, suc, ◌-◌, ◌≤◌, ◌<◌}
use native.Mathlib.Omega.{arith}
use mathlib.Core.Bool.{true, false}
use mathlib.Core.Logic.{◌⊎◌, inl, inr}
use Rattle.rules.specs.Lists.{first}
use Rattle.rules.specs.Sizes.{bit}
use Rattle.rules.specs.Messages.{vote, mask_allowed, to_all}
use Rattle.rules.specs.Words.{Statement, message, same_statement}
use Rattle.laws.proofs.Tests.{by_option, no_bool}
use Rattle.laws.proofs.Searches.{first_any, first_none, first_mem}
use Rattle.laws.proofs.Statements.{In, same_like}
use Rattle.laws.proofs.Allowed.{mask_parts, allowed_rights, certificate_cases}
use Rattle.laws.proofs.Moves.{carried}
use Rattle.laws.proofs.Kept.{moves_kept}
use Rattle.laws.proofs.Votes.{Cast}
use Rattle.agreement.specs.Schedule.{IsSaid, Run, run}
use Rattle.agreement.proofs.Events.{Brings, begun}
use Rattle.agreement.proofs.Group.{Group, st, ck, Ok, G, SaidAt, VotedBy, Sure, sure_run, cast_run}
use Rattle.agreement.proofs.Follow.{names_sound}

module _ (X : Group) where
  open X use {size, n, D, faulty, event, next, parent_of}

  abbrev R : Run
  R = run size n D event

  -- a sound station voted so by clock c
  abbrev pub SoundVote : (c v h b : ℕ) → Type 0
  SoundVote c v h b = (i : ℕ) × (k : ℕ) × Ok X i × (ck X (suc k) ≤ c) × IsSaid R i k (to_all (vote v h b i))

  -- behind a stored statement
  abbrev pub Behind : ℕ → Statement → Type 0
  Behind c w =
      (w.is_new_view ≡ false → (h : ℕ) × (w.height ≡ suc h) × (parent_of w.name ≡ w.link) × SoundVote c w.view h w.link)
      × (w.is_new_view ≡ true → (w.link < w.view) × (((w.link ≡ 0) × (w.height ≡ 0)) ⊎ SoundVote c w.link w.height w.name))

  -- behind a quorum whose voters are known to have voted
  quorum_vote : (c i v h b m : ℕ) → mask_allowed (G X i) m ≡ true → ((j : ℕ) → bit m j ≡ 1 → VotedBy X c v h b j) → SoundVote c v h b
  quorum_vote c i v h b m a f =
      let (l, q) = mask_parts (G X i) m a in
      let (j, ok, e) = names_sound X i m l q in
      let (k, t, s) = f j e ok in
      (j, k, ok, t, s)

  sure_behind : (i k : ℕ) (z : Statement) → Sure X i k z → Behind (ck X k) z
  unfolding message carried
  sure_behind i k z r = (
    λ e.
        let (w, q) = rw (e, message) at r in
        let (o, l, b, p, m, a) = allowed_rights (G X i) _ w in
        (z.height - 1, omega arith, q.parent, quorum_vote (ck X k) i z.view (z.height - 1) z.link z.mask m (λ j y. q.backed _ refl j y)),
    λ e.
        let (w, q) = rw (e, message) at r in
        let (o, b, l, m, a) = allowed_rights (G X i) _ w in
        elim (certificate_cases (G X i) _ _ _ m) [
          | inl (u, h, _) ↦ (l, inl (u, h))
          | inr (_, _, u) ↦ (l, inr (quorum_vote (ck X k) i z.link z.height z.name z.mask u (λ j y. q.backed _ refl j y)))
        ],
  )

  stored_behind : (i : ℕ) → Ok X i → (k : ℕ) (w : Statement) → In (st X i k).statements w → Behind (ck X k) w
  stored_behind i ok k w h =
      let xs = (st X i k).statements in
      by_option (first (same_statement w) xs) (λ f. no_bool (sym h ∙ first_none (same_statement w) xs f)) λ z f.
      subst (Behind (ck X k)) (same_like w z (first_any (same_statement w) xs z f).1) (sure_behind i k z (sure_run X i ok k z (first_mem (same_statement w) xs z f)))

  -- L4, L6, L8 and G1: what stands behind a sound vote at event k
  pub record Grounds (i k v h b : ℕ) : Type 0 where
    pub cast : Cast (SaidAt X i) (Brings i (event k) (st X i k)) (begun (event k) (st X i k)) (st X i (suc k)) v h b
    pub behind : Behind (ck X (suc k)) cast.stands.what

  pub grounds : (i : ℕ) → Ok X i → (k v h b a : ℕ) → IsSaid R i k (to_all (vote v h b a)) → Grounds i k v h b
  grounds i ok k v h b a m =
      let c = cast_run X i ok k v h b a m in
      record { cast = c; behind = stored_behind i ok (suc k) c.stands.what ((moves_kept c.after).has c.stands.what c.stands.has) }
