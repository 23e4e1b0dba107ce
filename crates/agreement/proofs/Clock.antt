-- The clock of a schedule: it counts the common ticks, for every station alike. Assumes nothing.
use mathlib.Core.Path.{◌≡◌, refl}
use Prim.Native.Nat.{ℕ, zero, suc, ◌+◌, ◌≤◌, ◌<◌}
use native.Mathlib.Omega.{arith}
use native.Mathlib.Decide.{dec_lt, dec_le}
use mathlib.Core.Logic.{◌⊎◌, inl, inr}
use Rattle.agreement.specs.Schedule.{Event, common_tick, ticks, IsCommon, clock}
use Rattle.agreement.proofs.Events.{ticks_two, ticks_alike}

module _ (event : ℕ → Event) where
  pub clock_suc : (k : ℕ) → clock event 0 (suc k) ≡ clock event 0 k + ticks 0 (event k)
  unfolding clock
  clock_suc k = refl

  pub clock_mono : (k l : ℕ) → k ≤ l → clock event 0 k ≤ clock event 0 l
  clock_mono k zero c = let e : k ≡ 0 = omega arith in rw e (omega arith)
  clock_mono k (suc l) c =
      let s = clock_suc l in
      elim (dec_le k l) [
        | yes d ↦ (let r = clock_mono k l d in omega arith)
        | no d ↦ (let e : k ≡ suc l = omega arith in rw e (omega arith))
      ]

  pub clock_before : (k l : ℕ) → clock event 0 k < clock event 0 l → k < l
  clock_before k l h =
      elim (dec_lt k l) [
        | yes d ↦ d
        | no d ↦ (let r = clock_mono l k (omega arith) in absurd (omega arith))
      ]

  -- the last moment of a clock, before k: there a common tick is next
  abbrev pub LastOf : (c k : ℕ) → Type 0
  LastOf c k = (l : ℕ) × (l < k) × (clock event 0 l ≡ c) × (clock event 0 (suc l) ≡ c + 1) × (event l ≡ common_tick)

  pub last_of : ((k : ℕ) → IsCommon (event k)) → (c k : ℕ) → c < clock event 0 k → LastOf c k
  unfolding clock
  last_of cm c zero h = absurd (omega arith)
  last_of cm c (suc k) h =
      elim (dec_lt c (clock event 0 k)) [
        | yes d ↦ (let (l, a, b, e, f) = last_of cm c k d in (l, omega arith, b, e, f))
        | no d ↦ go d (ticks_two (event k) (cm k))
      ]
    where
      go : ¬ (c < clock event 0 k) → (ticks 0 (event k) ≡ 0) ⊎ ((ticks 0 (event k) ≡ 1) × (event k ≡ common_tick)) → LastOf c (suc k)
      go d (inl t) = absurd (omega arith)
      go d (inr (t, e)) = (k, omega arith, omega arith, omega arith, e)

  pub clock_alike : ((k : ℕ) → IsCommon (event k)) → (i k : ℕ) → clock event i k ≡ clock event 0 k
  unfolding clock
  clock_alike cm i zero = refl
  clock_alike cm i (suc k) = let a = clock_alike cm i k in let b = ticks_alike i 0 (event k) (cm k) in omega arith

  pub one_tick : ((k : ℕ) → IsCommon (event k)) → (k : ℕ) → clock event 0 (suc k) ≤ clock event 0 k + 1
  one_tick cm k = go (clock_suc k) (ticks_two (event k) (cm k))
    where
      go : clock event 0 (suc k) ≡ clock event 0 k + ticks 0 (event k) → (ticks 0 (event k) ≡ 0) ⊎ ((ticks 0 (event k) ≡ 1) × (event k ≡ common_tick))
          → clock event 0 (suc k) ≤ clock event 0 k + 1
      go e (inl t) = omega arith
      go e (inr (t, f)) = omega arith
