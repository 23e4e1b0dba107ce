-- A sound log grows at its end alone. Assumes nothing.
use mathlib.Core.Path.{◌≡◌, subst, subst₂, refl, sym, ◌∙◌}
use Prim.Native.Nat.{ℕ, zero, suc, ◌≤◌}
use native.Mathlib.Omega.{arith}
use native.Mathlib.Decide.{dec_le}
use mathlib.Core.List.{List, [], IsPrefix, append-nil}
use mathlib.Core.Logic.{◌⊎◌, inl, inr}
use Rattle.rules.specs.Inputs.{due}
use Rattle.rules.specs.Words.{State}
use Rattle.laws.proofs.Moves.{counted, log_after}
use Rattle.laws.proofs.Kept.{moves_fixed}
use Rattle.laws.proofs.Commits.{begins_trans, commits_some}
use Rattle.agreement.specs.Schedule.{Event, idle, common_tick, tick_of, given, offered_to}
use Rattle.agreement.proofs.Events.{begun}
use Rattle.agreement.proofs.Group.{Group, st, Ok, moves_of}
use Rattle.agreement.proofs.Logs.{counted_same, tick_log_lem}

-- what is no common tick leaves the log
begun_log : (e : Event) (s : State) → (e ≡ common_tick) ⊎ ((begun e s).log ≡ s.log)
unfolding begun
begun_log idle s = inr refl
begun_log common_tick s = inl refl
begun_log (tick_of j) s = inr refl
begun_log (given j bs) s = inr refl
begun_log (offered_to j b) s = inr refl

begins_self : (l : List ℕ) → IsPrefix l l
begins_self l = ([], append-nil l)

module _ (X : Group) where
  open X use {event}

  log_one : (i : ℕ) → Ok X i → (k : ℕ) → IsPrefix (st X i k).log (st X i (suc k)).log
  log_one i hi k = go (begun_log (event k) (st X i k))
    where
      go : (event k ≡ common_tick) ⊎ ((begun (event k) (st X i k)).log ≡ (st X i k).log) → IsPrefix (st X i k).log (st X i (suc k)).log
      go (inl e) =
          let s = st X i k in
          let u = counted s in
          let (a, b) = tick_log_lem X i hi k e in
          subst₂ IsPrefix (counted_same s).1 (sym a) (commits_some u.statements (due u) u.log (log_after s) b).begins
      go (inr e) = subst (IsPrefix (st X i k).log) (sym ((moves_fixed (moves_of X i hi k).2).2 ∙ e)) (begins_self (st X i k).log)

  pub log_run : (i : ℕ) → Ok X i → (k l : ℕ) → k ≤ l → IsPrefix (st X i k).log (st X i l).log
  log_run i hi k zero d = let e : k ≡ 0 = omega arith in subst (λ (j : ℕ). IsPrefix (st X i k).log (st X i j).log) e (begins_self (st X i k).log)
  log_run i hi k (suc l) d =
      elim (dec_le k l) [
        | yes u ↦ begins_trans (st X i k).log (st X i l).log (st X i (suc l)).log (log_run i hi k l u) (log_one i hi l)
        | no u ↦ (let e : k ≡ suc l = omega arith in subst (λ (j : ℕ). IsPrefix (st X i k).log (st X i j).log) e (begins_self (st X i k).log))
      ]
