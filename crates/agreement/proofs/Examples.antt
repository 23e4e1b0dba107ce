-- The schedules of specs/Examples.antt, evaluated: the theorems of demand 3 are not empty, and without one of five premises, all others
-- holding, they fail. Assumes nothing.
use mathlib.Core.Path.{◌≡◌, subst₂, refl}
use Prim.Native.Nat.{ℕ, suc, ◌+◌, ◌*◌}
use mathlib.Core.List.Memᴰ
use mathlib.Core.List.{List, [], ◌∷◌}
use mathlib.Core.Option.{none}
use Rattle.rules.specs.Limits.{small}
use Rattle.rules.specs.Messages.{propose, vote, view_of, write, to_all}
use Rattle.rules.specs.Words.{in_view}
use Rattle.rules.specs.Inputs.{merge}
use Rattle.laws.proofs.Commits.{begins_merge}
use Rattle.agreement.specs.Schedule.{Event, given, happens, ticks, at, out, clock, run, IsSaid, Schedule, OneBegins}
use Rattle.agreement.specs.Checks.{few_faulty, common_ticks, in_time, no_forgery, one_name, premises, other, AllBut, listed, verdict}
use Rattle.agreement.specs.Examples.{two_views, one_ahead, held_back, forged_votes, many_faulty, two_parents, own_ticks, height_of, parent_of, rival_height, rival_parent}
use Rattle.agreement.proofs.Checked.{all_but, schedule_checked}

-- ---- all premises hold, and two stations commit three blocks over two views with a faulty leader between

pub two_views_lem : Schedule (run small 3 1 (listed two_views)) 4 height_of parent_of
unfolding verdict premises two_views height_of parent_of
two_views_lem = schedule_checked small 3 1 two_views 4 height_of parent_of refl

pub two_views_logs : ((at small 3 1 (listed two_views) 0 58).log ≡ 77 ∷ 78 ∷ 79 ∷ []) × ((at small 3 1 (listed two_views) 1 58).log ≡ 77 ∷ 78 ∷ 79 ∷ [])
    × ((at small 3 1 (listed two_views) 0 58).view ≡ 3)
unfolding at listed two_views
two_views_logs = (refl, refl, refl)

-- ---- how near a message of a sound station comes to refusal 11: exactly one view ahead, and taken

pub one_ahead_lem : Schedule (run small 3 1 (listed one_ahead)) 4 height_of parent_of
unfolding verdict premises one_ahead height_of parent_of
one_ahead_lem = schedule_checked small 3 1 one_ahead 4 height_of parent_of refl

pub one_ahead_taken : IsSaid (run small 3 1 (listed one_ahead)) 0 19 (to_all (vote 2 0 0 0)) × (listed one_ahead 21 ≡ given 1 (write (vote 2 0 0 0)))
    × ((at small 3 1 (listed one_ahead) 1 21).view + 1 ≡ view_of (vote 2 0 0 0)) × ((happens 1 (listed one_ahead 21) (at small 3 1 (listed one_ahead) 1 21)).number ≡ 0)
unfolding at out happens listed one_ahead view_of
one_ahead_taken = (Memᴰ.tail (Memᴰ.tail (Memᴰ.head refl)), refl, refl, refl)

-- ---- all but one premise hold, and the logs split

-- of the logs of stations i and j at moment k neither begins the other
abbrev Differ : List Event → (i j k : ℕ) → Type 0
Differ es i j k =
    ¬ (OneBegins (at small 3 1 (listed es) i k).log (at small 3 1 (listed es) j k).log)

differ : (x y a b : List ℕ) → x ≡ a → y ≡ b → merge a b ≡ none → ¬ (OneBegins x y)
differ x y a b p q m o = begins_merge a b (subst₂ (λ (u v : List ℕ). OneBegins u v) p q o) m

held_back_logs : ((at small 3 1 (listed held_back) 0 7).log ≡ 77 ∷ []) × ((at small 3 1 (listed held_back) 2 7).log ≡ 78 ∷ [])
unfolding at listed held_back
held_back_logs = (refl, refl)

-- without delivery in time
pub held_back_lem : AllBut (run small 3 1 (listed held_back)) 2 rival_height rival_parent in_time × Differ held_back 0 2 7
unfolding verdict premises other held_back rival_height rival_parent merge
held_back_lem = (
  all_but small 3 1 held_back 2 rival_height rival_parent in_time refl,
  differ _ _ (77 ∷ []) (78 ∷ []) held_back_logs.0 held_back_logs.1 refl,
)

two_parents_logs : ((at small 3 1 (listed two_parents) 0 46).log ≡ 77 ∷ 99 ∷ 100 ∷ 101 ∷ []) × ((at small 3 1 (listed two_parents) 2 46).log ≡ 78 ∷ 99 ∷ 100 ∷ 101 ∷ [])
unfolding at listed two_parents
two_parents_logs = (refl, refl)

-- without one block per name
pub two_parents_lem : AllBut (run small 3 1 (listed two_parents)) 2 height_of parent_of one_name × Differ two_parents 0 2 46
unfolding verdict premises other two_parents height_of parent_of merge
two_parents_lem = (
  all_but small 3 1 two_parents 2 height_of parent_of one_name refl,
  differ _ _ (77 ∷ 99 ∷ 100 ∷ 101 ∷ []) (78 ∷ 99 ∷ 100 ∷ 101 ∷ []) two_parents_logs.0 two_parents_logs.1 refl,
)

-- ---- all but one premise hold, and a commit is missed: station 0 votes for a propose of name 99 and height 2 at clock 0 (event j), is in its
-- view as the tick to 2D+1 begins (event 7), and has not logged it after that tick

abbrev Missed : (n : ℕ) → List Event → (j mask : ℕ) → Type 0
Missed n es j m =
    let R = run small n 1 (listed es) in
    IsSaid R 0 j (to_all (propose 1 2 99 98 m 1)) × IsSaid R 0 j (to_all (vote 1 2 99 0)) × (ticks 0 (listed es 7) ≡ 1)
    × (clock (listed es) 0 7 ≡ clock (listed es) 0 (suc j) + 2 * 1) × ((at small n 1 (listed es) 0 7).phase ≡ in_view) × ((at small n 1 (listed es) 0 7).view ≡ 1)
    × ((at small n 1 (listed es) 0 8).log ≡ [])

forged_missed : Missed 3 forged_votes 0 3
unfolding at out clock ticks listed forged_votes
forged_missed = (Memᴰ.head refl, Memᴰ.tail (Memᴰ.head refl), refl, refl, refl, refl, refl)

-- without no forgery
pub forged : AllBut (run small 3 1 (listed forged_votes)) 2 height_of parent_of no_forgery × Missed 3 forged_votes 0 3
unfolding verdict premises other forged_votes height_of parent_of
forged = (all_but small 3 1 forged_votes 2 height_of parent_of no_forgery refl, forged_missed)

many_faulty_missed : Missed 5 many_faulty 0 14
unfolding at out clock ticks listed many_faulty
many_faulty_missed = (Memᴰ.head refl, Memᴰ.tail (Memᴰ.head refl), refl, refl, refl, refl, refl)

-- without at most f faulty
pub many_faulty_lem : AllBut (run small 5 1 (listed many_faulty)) 14 height_of parent_of few_faulty × Missed 5 many_faulty 0 14
unfolding verdict premises other many_faulty height_of parent_of
many_faulty_lem = (all_but small 5 1 many_faulty 14 height_of parent_of few_faulty refl, many_faulty_missed)

own_ticks_missed : Missed 3 own_ticks 2 6
unfolding at out clock ticks listed own_ticks
own_ticks_missed = (Memᴰ.head refl, Memᴰ.tail (Memᴰ.head refl), refl, refl, refl, refl, refl)

-- without common ticks
pub own_ticks_lem : AllBut (run small 3 1 (listed own_ticks)) 2 height_of parent_of common_ticks × Missed 3 own_ticks 2 6
unfolding verdict premises other own_ticks height_of parent_of
own_ticks_lem = (all_but small 3 1 own_ticks 2 height_of parent_of common_ticks refl, own_ticks_missed)
