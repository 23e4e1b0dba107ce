-- The clock of entry and the lock: they stay with the view, and who enters notes the clock. Assumes nothing.
use mathlib.Core.Path.{◌≡◌, refl, sym, ◌∙◌}
use Prim.Native.Nat.{ℕ, zero, suc, ◌≤◌, ◌<◌}
use native.Mathlib.Omega.{arith}
use native.Mathlib.Decide.{dec_le}
use mathlib.Core.List.{List, [], ◌∷◌}
use mathlib.Core.Logic.{◌⊎◌, inl, inr}
use Rattle.rules.specs.Messages.{Effect}
use Rattle.rules.specs.Words.{Statement, State}
use Rattle.rules.specs.Inputs.{saying, ◌▸◌, with_phase, with_clock, with_tables, with_blames, with_log, entering, below_lock, voted_for, stored, blamed, current, in_order, voting_all}
use Rattle.laws.proofs.Tests.{by_bool}
use Rattle.laws.proofs.Moves.{Outside, arrived, counted, Move, joins, stores, passes, casts, clashes, accuses, fills, complains, enters_full, enters_pair, enters, Moves, here, more, voting_low, voting_high}
use Rattle.laws.proofs.Kept.{voting_all_fixed, move_fixed}
use Rattle.agreement.specs.Schedule.{Event, idle, common_tick, tick_of, given, offered_to}
use Rattle.agreement.proofs.Events.{begun, begun_same}
use Rattle.agreement.proofs.Clock.{clock_mono}
use Rattle.agreement.proofs.Group.{Group, st, ck, Ok, moves_of, at_clock}

-- view, entry and lock stay
abbrev pub Remains : State → State → Type 0
Remains s t = (t.view ≡ s.view) × (t.entry ≡ s.entry) × (t.lock ≡ s.lock)

-- or a later view is entered now
abbrev Going : State → State → Type 0
Going s t = Remains s t ⊎ ((s.view < t.view) × (t.entry ≡ t.clock))

pub voting_all_entry : (ys : List Statement) (s : State) → (voting_all ys s).now.entry ≡ s.entry
unfolding voting_all saying voted_for with_tables ◌▸◌
voting_all_entry [] s = refl
voting_all_entry (y ∷ ys) s =
    by_bool (below_lock y s) (λ l. rw (voting_low y s l) (voting_all_entry ys s)) (λ l. rw (voting_high y s l) (voting_all_entry ys (voted_for y s)))

module _ {R : Outside} where
  move_entry : (s t : State) (o : List Effect) → Move R s t o → Going s t
  unfolding with_tables with_phase with_blames with_log entering stored voted_for blamed
  move_entry s t o (joins n m u g c) = inl (refl, refl, refl)
  move_entry s t o (stores x g f) = inl (refl, refl, refl)
  move_entry s t o (passes x g f c l) = inl (refl, refl, refl)
  move_entry s t o (casts x g f c l) = inl (refl, refl, refl)
  move_entry s t o (clashes x y g f c) = inl (refl, refl, refl)
  move_entry s t o (accuses v m a f) = inl (refl, refl, refl)
  move_entry s t o (fills v m a f) = inl (refl, refl, refl)
  move_entry s t o (complains f) = inl (refl, refl, refl)
  move_entry s t o (enters_full e c) = inr (omega arith, refl)
  move_entry s t o (enters_pair p e c f) = inr (omega arith, refl)
  move_entry s t o (enters e c f) =
      let ys = in_order (current (arrived s)) in
      let k = voting_all_fixed ys (arrived s) in
      let v = k.2 in
      inr (omega arith, voting_all_entry ys (arrived s) ∙ sym k.0.1)

  moves_entry : (s t : State) (o : List Effect) → Moves R s t o → Going s t
  moves_entry s t o here = inl (refl, refl, refl)
  moves_entry s t o (more {t = u} {o = p} {p = q} a b) = go (moves_entry s u p a) (move_entry u t q b)
    where
      go : Going s u → Going u t → Going s t
      go (inl (v, e, l)) (inl (w, f, m)) = inl (w ∙ v, f ∙ e, m ∙ l)
      go (inl (v, e, l)) (inr (w, f)) = inr (omega arith, f)
      go (inr (v, e)) (inl (w, f, m)) = inr (omega arith, f ∙ e ∙ sym (move_fixed b).1)
      go (inr (v, e)) (inr (w, f)) = inr (omega arith, f)

pub begun_entry : (e : Event) (s : State) → (begun e s).entry ≡ s.entry
unfolding begun counted with_clock with_log
begun_entry idle s = refl
begun_entry common_tick s = refl
begun_entry (tick_of j) s = refl
begun_entry (given j bs) s = refl
begun_entry (offered_to j b) s = refl

module _ (X : Group) where
  open X use {event}

  entry_one : (i : ℕ) → Ok X i → (k : ℕ)
      → Remains (st X i k) (st X i (suc k))
      ⊎ (((st X i k).view < (st X i (suc k)).view) × ((st X i (suc k)).entry ≡ ck X (suc k)))
  entry_one i ok k = go (moves_entry (begun (event k) (st X i k)) (st X i (suc k)) (moves_of X i ok k).0 (moves_of X i ok k).2)
    where
      go : Going (begun (event k) (st X i k)) (st X i (suc k))
          → Remains (st X i k) (st X i (suc k))
          ⊎ (((st X i k).view < (st X i (suc k)).view) × ((st X i (suc k)).entry ≡ ck X (suc k)))
      go (inl (v, e, l)) = let b = begun_same (event k) (st X i k) in inl (v ∙ b.2, e ∙ begun_entry (event k) (st X i k), l ∙ b.6)
      go (inr (v, e)) = let b = (begun_same (event k) (st X i k)).2 in inr (omega arith, e ∙ at_clock X i ok (suc k))

  -- the entry stays while the view does; a later view is entered later
  pub entry_run : (i : ℕ) → Ok X i → (k l : ℕ) → k ≤ l
      → Remains (st X i k) (st X i l) ⊎ (((st X i k).view < (st X i l).view) × (ck X (suc k) ≤ (st X i l).entry))
  entry_run i ok k zero c = let e : k ≡ 0 = omega arith in rw e (inl (refl, refl, refl))
  entry_run i ok k (suc l) c =
      elim (dec_le k l) [
        | yes d ↦ go d (entry_run i ok k l d) (entry_one i ok l)
        | no d ↦ (let e : k ≡ suc l = omega arith in rw e (inl (refl, refl, refl)))
      ]
    where
      go : k ≤ l → Remains (st X i k) (st X i l) ⊎ (((st X i k).view < (st X i l).view) × (ck X (suc k) ≤ (st X i l).entry))
          → Remains (st X i l) (st X i (suc l)) ⊎ (((st X i l).view < (st X i (suc l)).view) × ((st X i (suc l)).entry ≡ ck X (suc l)))
          → Remains (st X i k) (st X i (suc l)) ⊎ (((st X i k).view < (st X i (suc l)).view) × (ck X (suc k) ≤ (st X i (suc l)).entry))
      go d (inl (v, e, o)) (inl (w, f, q)) = inl (w ∙ v, f ∙ e, q ∙ o)
      go d (inl (v, e, o)) (inr (w, f)) = let m = clock_mono event (suc k) (suc l) (omega arith) in inr (omega arith, omega arith)
      go d (inr (v, e)) (inl (w, f, q)) = inr (omega arith, omega arith)
      go d (inr (v, e)) (inr (w, f)) = let m = clock_mono event (suc k) (suc l) (omega arith) in inr (omega arith, omega arith)
