-- 02, request 11: "Commits and logs stay as they were". A station that keeps no clock with its tallies. Assumes nothing.
use Rattle.std.specs.Prelude.{◌≡◌, map}
use Rattle.std.proofs.Math.Option.{none}
use Rattle.rules.specs.Words.{Tally, State}
use Rattle.rules.specs.Inputs.{with_tables}
use Rattle.rules.specs.Refusals.{Outcome}

-- a tally without its clock
unfoldable pub clockless : Tally → Tally
clockless t = record { view = t.view; height = t.height; name = t.name; mask = t.mask; opener = t.opener; reached = none }

-- the station, with no clock kept
unfoldable pub forget : State → State
unfolding with_tables clockless
forget s = with_tables s.statements (map clockless s.tallies) s

-- an answer, whose station keeps no clock
unfoldable pub forgotten : Outcome → Outcome
unfolding forget
forgotten o = record { number = o.number; next = forget o.next; out = o.out }

-- two stations that differ in the kept clocks alone
abbrev pub Alike : State → State → Type 0
Alike s t = forget s ≡ forget t
