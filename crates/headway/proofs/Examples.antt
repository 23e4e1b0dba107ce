-- The steady schedule of crates/progress, lived by hosts: whatever proper stores and out buffers they lend, view 2 gets on. Assumes nothing.
use Prim.Native.Nat.{ℕ}
use mathlib.Core.Path.{sym}
use mathlib.Core.List.{List}
use Rattle.rules.specs.Limits.{small}
use Rattle.agreement.specs.Schedule.{run}
use Rattle.agreement.specs.Checks.{listed}
use Rattle.agreement.specs.Examples.{height_of, parent_of}
use Rattle.progress.specs.Progress.{GetsOn}
use Rattle.progress.specs.Examples.{steady}
use Rattle.progress.proofs.Alike.{led_alike}
use Rattle.progress.proofs.Examples.{steady_schedule, steady_led}
use Rattle.promises.specs.Run.{calls_run, Lends}
use Rattle.promises.proofs.Promises.{same_states, same_words, to_calls}
use Rattle.headway.proofs.Headway.{stores_get_on}

pub steady_stores : (room : ℕ → List ℕ) (lent : ℕ → ℕ → List ℕ) → Lends small 3 1 (listed steady) room lent 2 → (K : ℕ)
    → GetsOn (calls_run small 3 1 (listed steady) room lent) 2 2 K parent_of
steady_stores room lent L K =
    let C = calls_run small 3 1 (listed steady) room lent in
    let S = to_calls small 3 1 (listed steady) room lent 2 L height_of parent_of steady_schedule in
    let P = S.premises in
    let states = same_states small 3 1 (listed steady) room lent 2 L P.settings P.lent in
    let words = same_words small 3 1 (listed steady) room lent 2 L P.settings P.lent in
    stores_get_on small 3 1 (listed steady) room lent 2 L height_of parent_of 2 K P (λ i ok k l. S.room i ok k)
    (led_alike (run small 3 1 (listed steady)) C.state C.said 2 2 K (λ i ok k. sym (states i ok k)) (λ i ok k. sym (words i ok k)) (steady_led K))
