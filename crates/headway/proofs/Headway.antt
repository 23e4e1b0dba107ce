-- Request 12 of the calls, with every premise and every conclusion about stores and bytes: what is asked of the leader's host is asked of
-- the state that the leader's store holds as a tick begins. Assumes nothing.
use mathlib.Core.Path.{subst, sym}
use Prim.Native.Nat.{ℕ}
use mathlib.Core.List.{List}
use Rattle.rules.specs.Limits.{Size}
use Rattle.agreement.specs.Schedule.{Event, HasRoom, Run, at, out, run, RoomTo, Premises}
use Rattle.agreement.proofs.Alike.{premises_alike}
use Rattle.progress.specs.Progress.{Led, GetsOn}
use Rattle.progress.proofs.Alike.{led_alike, gets_alike}
use Rattle.progress.proofs.Theorems.{gets_on}
use Rattle.promises.specs.Run.{calls_run, Lends}
use Rattle.promises.proofs.Promises.{same_states, same_words}

module _ (size : Size) (n D : ℕ) (event : ℕ → Event) (room : ℕ → List ℕ) (lent : ℕ → ℕ → List ℕ) (faulty : ℕ) (L : Lends size n D event room lent faulty)
    (height_of parent_of : ℕ → ℕ) (v K : ℕ) where
  abbrev C : Run
  C = calls_run size n D event room lent

  -- Theorem P of the calls
  pub stores_get_on : Premises C faulty height_of parent_of → RoomTo C faulty K → Led C v faulty K → GetsOn C v faulty K parent_of
  stores_get_on P space led =
      let states = same_states size n D event room lent faulty L P.settings P.lent in
      let words = same_words size n D event room lent faulty L P.settings P.lent in
      gets_alike (run size n D event) C.state C.said faulty v K (λ i ok k. sym (states i ok k)) (λ i ok k. sym (words i ok k)) parent_of
      (gets_on size n D event faulty height_of parent_of v K (premises_alike C (at size n D event) (out size n D event) faulty height_of parent_of states words P)
      (λ i ok k l. subst HasRoom (states i ok k) (space i ok k l)) (led_alike C (at size n D event) (out size n D event) faulty v K states words led))
