-- The schedules of specs/Examples.antt, evaluated: what request 12 claims is not empty, its bound is reached, and without a prompt
-- leader, delivery in time or no forgery, all else holding, a sound station blames or quits. Assumes nothing.
use mathlib.Core.Path.{◌≡◌, refl, sym, ap, ◌∙◌}
use Prim.Native.Nat.{ℕ, ◌+◌, ◌*◌}
use native.Mathlib.Omega.{arith}
use native.Mathlib.Decide.{dec_lt}
use mathlib.Core.Bool.{true}
use mathlib.Core.List.Memᴰ
use mathlib.Core.List.{List}
use lib.ListN.{length}
use borrow.Author.Tests.{eq-eqb, not-true}
use Rattle.rules.specs.Limits.{Size, small}
use Rattle.rules.specs.Sizes.{leader}
use Rattle.rules.specs.Messages.{vote, blame, to_all}
use Rattle.rules.specs.Words.{waiting}
use Rattle.laws.proofs.Truths.{both}
use Rattle.agreement.specs.Schedule.{Event, common_tick, settings_of, at, out, clock, run, IsSaid, Schedule}
use Rattle.agreement.specs.Checks.{in_time, no_forgery, premises, other, AllBut, listed, verdict}
use Rattle.agreement.specs.Examples.{height_of, parent_of}
use Rattle.agreement.proofs.Events.{never_idle}
use Rattle.agreement.proofs.Checked.{implies_true, every_true, listed_idle, all_but, schedule_checked}
use Rattle.progress.specs.Progress.{possible, voted_in, Prompt, Entered, Led, GetsOn}
use Rattle.progress.specs.Examples.{steady, late_offer, used_name, late_delivery, forged_blame, is_tick, all_prompt}
use Rattle.progress.proofs.Theorems.{gets_on}

-- the test of a prompt leader that holds is the premise
prompt_checked : (size : Size) (n D : ℕ) (es : List Event) (v : ℕ) → all_prompt size n D es v ≡ true → Prompt (run size n D (listed es)) v
unfolding all_prompt is_tick
prompt_checked size n D es v h k e w =
    let i = leader (settings_of size n D 0) v in
    elim (dec_lt k (length es)) [
      | yes d ↦ not-true (possible (at size n D (listed es) i k)) (implies_true _ (every_true (length es) _ h k d) (both (ap is_tick e) (eq-eqb _ v w)))
      | no d ↦ absurd (never_idle common_tick tt (sym (listed_idle size n D es 0 k (omega arith)) ∙ e))
    ]

-- ---- all premises hold

pub steady_schedule : Schedule (run small 3 1 (listed steady)) 2 height_of parent_of
unfolding verdict premises steady height_of parent_of
steady_schedule = schedule_checked small 3 1 steady 2 height_of parent_of refl

pub steady_led : (K : ℕ) → Led (run small 3 1 (listed steady)) 2 2 K
unfolding all_prompt steady leader
steady_led K =
    record {
      inside = (omega arith, omega arith);
      sound = (omega arith, refl);
      prompt = λ k l. prompt_checked small 3 1 steady 2 refl k;
    }

-- so view 2 gets on, by the theorem
pub steady_gets_on : (K : ℕ) → GetsOn (run small 3 1 (listed steady)) 2 2 K parent_of
steady_gets_on K =
    gets_on small 3 1 (listed steady) 2 height_of parent_of 2 K steady_schedule.premises (λ i ok k l. steady_schedule.room i ok k) (steady_led K)

-- ---- the bound is reached: station 0 is the first to enter, at clock 10, and says its votes for the first and the second proposal at
-- clocks 10+(2+4)+1 and 10+(4+4)+1, the last that are allowed

pub steady_tight : Entered (run small 3 1 (listed steady)) 2 2 42 0 10 × Entered (run small 3 1 (listed steady)) 2 2 42 2 11
    × IsSaid (run small 3 1 (listed steady)) 0 28 (to_all (vote 2 1 77 0)) × (clock (listed steady) 0 29 ≡ 10 + (2 * 1 + 4) * 1 + 1)
    × IsSaid (run small 3 1 (listed steady)) 0 35 (to_all (vote 2 2 78 0)) × (clock (listed steady) 0 36 ≡ 10 + (2 * 2 + 4) * 1 + 1)
unfolding at out clock listed steady
steady_tight = (
  (16, omega arith, refl, refl),
  (18, omega arith, refl, refl),
  Memᴰ.tail (Memᴰ.head refl),
  refl,
  Memᴰ.tail (Memᴰ.head refl),
  refl,
)

-- a tick earlier neither was voted for
pub steady_before : (clock (listed steady) 0 28 ≡ 17) × (voted_in 2 (at small 3 1 (listed steady) 0 28) ≡ 0)
    × (clock (listed steady) 0 35 ≡ 19) × (voted_in 2 (at small 3 1 (listed steady) 0 35) ≡ 1)
unfolding at clock listed steady voted_in
steady_before = (refl, refl, refl, refl)

-- ---- a premise fails, all others hold, and a sound station blames as the bound is over

-- station 0 blames view 2 at event k
abbrev Blames : List Event → ℕ → Type 0
Blames es k = IsSaid (run small 3 1 (listed es)) 0 k (to_all (blame 2 0))

-- the leader's host offers a tick late: as the tick to 17 begins, an offer is possible
pub late_offer_lem : Schedule (run small 3 1 (listed late_offer)) 2 height_of parent_of
    × ((clock (listed late_offer) 0 26 ≡ 16) × (possible (at small 3 1 (listed late_offer) 2 26) ≡ true)) × Blames late_offer 28
unfolding verdict premises late_offer height_of parent_of at out clock listed possible
late_offer_lem = (schedule_checked small 3 1 late_offer 2 height_of parent_of refl, (refl, refl), Memᴰ.head refl)

-- it offers at once, but a used name
pub used_name_lem : Schedule (run small 3 1 (listed used_name)) 2 height_of parent_of
    × ((clock (listed used_name) 0 34 ≡ 18) × (possible (at small 3 1 (listed used_name) 2 34) ≡ true)) × Blames used_name 35
unfolding verdict premises used_name height_of parent_of at out clock listed possible
used_name_lem = (schedule_checked small 3 1 used_name 2 height_of parent_of refl, (refl, refl), Memᴰ.tail (Memᴰ.head refl))

-- a message comes a tick late
pub late_delivery_lem : AllBut (run small 3 1 (listed late_delivery)) 2 height_of parent_of in_time × ((K : ℕ) → Led (run small 3 1 (listed late_delivery)) 2 2 K)
    × Blames late_delivery 28
unfolding verdict premises other late_delivery height_of parent_of all_prompt leader out listed
late_delivery_lem = (
  all_but small 3 1 late_delivery 2 height_of parent_of in_time refl,
  λ K. record { inside = (omega arith, omega arith); sound = (omega arith, refl); prompt = λ k l. prompt_checked small 3 1 late_delivery 2 refl k },
  Memᴰ.head refl,
)

-- a blame is forged: both quit view 2, which nobody blamed
pub forged_blame_lem : AllBut (run small 3 1 (listed forged_blame)) 2 height_of parent_of no_forgery × ((K : ℕ) → Led (run small 3 1 (listed forged_blame)) 2 2 K)
    × (((at small 3 1 (listed forged_blame) 0 19).phase ≡ waiting 12) × ((at small 3 1 (listed forged_blame) 2 21).phase ≡ waiting 13))
unfolding verdict premises other forged_blame height_of parent_of all_prompt leader at listed
forged_blame_lem = (
  all_but small 3 1 forged_blame 2 height_of parent_of no_forgery refl,
  λ K. record { inside = (omega arith, omega arith); sound = (omega arith, refl); prompt = λ k l. prompt_checked small 3 1 forged_blame 2 refl k },
  (refl, refl),
)
