-- 02, request 1: one input handed to the station. Assumes nothing.
use Rattle.std.specs.Prelude.{ℕ, true, false, List, eqb}
use Rattle.calls.specs.Calls.{Called, step_called, tick_called, offer_called}

-- an input handed to the station: "1 tick, 2 offer, 3 message"
unfoldable pub handed : ℕ → List ℕ → List ℕ → List ℕ → Called
handed k bs b o = elim (eqb k 1) [ true ↦ tick_called b o | false ↦ elim (eqb k 2) [ true ↦ offer_called bs b o | false ↦ step_called bs b o ] ]
