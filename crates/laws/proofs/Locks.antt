-- The lock fact: who has every sound vote for a block and enters a later view locks at or above it. Assumes nothing.
use mathlib.Core.Path.{◌≡◌, refl, ap, ◌∙◌}
use Prim.Native.Nat.{ℕ, ◌+◌, ◌/◌, ◌%◌, ◌≤◌, ◌<◌}
use native.Mathlib.Omega.{arith}
use mathlib.Core.List.{List}
use mathlib.Core.Logic.{◌⊎◌, inl, inr}
use Rattle.rules.specs.Limits.{mask_bits}
use Rattle.rules.specs.Sizes.{Settings, bit, count}
use Rattle.rules.specs.Messages.{Effect}
use Rattle.rules.specs.Words.{Certificate, voters, State}
use Rattle.rules.specs.Inputs.{with_phase, with_tables, with_blames, with_log, entering, voted_for, stored, blamed, next_lock, current, in_order}
use Rattle.laws.proofs.Tallies.{Above, sound_quorum, count_quorum, highest_above}
use Rattle.laws.proofs.Moves.{Outside, arrived, Move, joins, stores, passes, casts, clashes, accuses, fills, complains, enters_full, enters_pair, enters, Moves, here, more}
use Rattle.laws.proofs.Kept.{move_fixed, move_kept, voting_all_fixed}

-- the lock stays with the view, or it is the highest certificate as the next is entered
abbrev Locking : State → State → Type 0
Locking s t = ((t.lock ≡ s.lock) × (t.view ≡ s.view)) ⊎ ((t.lock ≡ next_lock s) × (t.view ≡ s.view + 1))

move_lock : {R : Outside} (s t : State) (o : List Effect) → Move R s t o → Locking s t
unfolding with_tables with_phase with_blames with_log entering stored voted_for blamed
move_lock s t o (joins j m u g c) = inl (refl, refl)
move_lock s t o (stores x g f) = inl (refl, refl)
move_lock s t o (passes x g f c l) = inl (refl, refl)
move_lock s t o (casts x g f c l) = inl (refl, refl)
move_lock s t o (clashes x y g f c) = inl (refl, refl)
move_lock s t o (accuses v m a f) = inl (refl, refl)
move_lock s t o (fills v m a f) = inl (refl, refl)
move_lock s t o (complains f) = inl (refl, refl)
move_lock s t o (enters_full e c) = inr (refl, refl)
move_lock s t o (enters_pair p e c f) = inr (refl, refl)
move_lock s t o (enters e c f) = let k = voting_all_fixed (in_order (current (arrived s))) (arrived s) in inr (k.3, k.2)

module _ (n faulty : ℕ) (most : n ≤ mask_bits) (odd : n % 2 ≡ 1) (few : count faulty ≤ n / 2) (b : Certificate) where
  -- it has the votes of all that are not faulty
  abbrev pub HasAll : State → Type 0
  HasAll s = (s.settings.n ≡ n) × ((i : ℕ) → i < n → bit faulty i ≡ 0 → bit (voters b s.tallies) i ≡ 1)

  abbrev pub Locked : State → Type 0
  Locked s = b.view < s.view → Above s.lock b

  move_all : {R : Outside} (s t : State) (o : List Effect) → Move R s t o → HasAll s → HasAll t
  move_all s t o m q = (ap (λ (g : Settings). g.n) (move_fixed m).0 ∙ q.0, λ i l f. (move_kept s t o m).bits b i (q.1 i l f))

  next_lock_lem : (s : State) → HasAll s → b.view < s.view + 1 → Above (next_lock s) b
  unfolding next_lock
  next_lock_lem s q l =
      let h = sound_quorum n (voters b s.tallies) faulty most odd few q.1 in
      highest_above s.settings (s.view + 1) b s.tallies l (count_quorum s.settings (voters b s.tallies) (rw q.0 h))

  move_locked : {R : Outside} (s t : State) (o : List Effect) → Move R s t o → HasAll s → Locked s → Locked t
  move_locked s t o m q k l = go (move_lock s t o m)
    where
      go : Locking s t → Above t.lock b
      go (inl (e, v)) = rw e (k (omega arith))
      go (inr (e, v)) = rw e (next_lock_lem s q (omega arith))

  pub moves_locked : {R : Outside} (s t : State) (o : List Effect) → Moves R s t o → HasAll s → Locked s → HasAll t × Locked t
  moves_locked s t o here q k = (q, k)
  moves_locked s t o (more {t = u} {o = p} {p = r} a m) q k =
      let i = moves_locked s u p a q k in (move_all u t r m i.0, move_locked u t r m i.0 i.1)
