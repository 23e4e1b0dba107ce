-- 02, request 1: what the journal of a station that missed nothing has along a schedule. Assumes nothing.
use Prim.Native.Nat.{ℕ, zero, suc}
use Rattle.std.proofs.Math.Bool.{true, false}
use mathlib.Core.List.{List, [], ◌∷◌, ◌++◌}
use Rattle.std.specs.Prelude.{eqb}
use Rattle.rules.specs.Limits.{Size}
use Rattle.rules.specs.Lists.{unbe}
use Rattle.agreement.specs.Schedule.{Event, idle, common_tick, tick_of, given, offered_to}
use Rattle.promises.specs.Run.{calls, store_at}
use Rattle.keeping.specs.Taken.{is_taken}

-- what an event hands to station i, as a journal has it: "1 tick, 2 offer, 3 message"
unfoldable pub input_of : ℕ → Event → List (ℕ × List ℕ)
unfolding unbe
input_of i idle = []
input_of i common_tick = (1, []) ∷ []
input_of i (tick_of j) = elim (eqb i j) [ true ↦ (1, []) ∷ [] | false ↦ [] ]
input_of i (given j bs) = elim (eqb i j) [ true ↦ (3, bs) ∷ [] | false ↦ [] ]
input_of i (offered_to j name) = elim (eqb i j) [ true ↦ (2, unbe 32 name) ∷ [] | false ↦ [] ]

-- station i's inputs before moment k that were "answered 0, 6, 7 or 8", in their order
module _ (size : Size) (n D : ℕ) (event : ℕ → Event) (room : ℕ → List ℕ) (lent : ℕ → ℕ → List ℕ) where
  unfoldable pub kept : ℕ → ℕ → List (ℕ × List ℕ)
  unfolding input_of calls store_at is_taken
  kept i zero = []
  kept i (suc k) =
      kept i k ++ elim (is_taken (calls i (event k) (store_at size n D event room lent i k) (lent i k)).result) [ true ↦ input_of i (event k) | false ↦ [] ]
