-- `phase_number` meets its contract: each phase has its number. Assumes nothing.
use native.Mathlib.Omega.{arith}
use Rattle.records.proofs.phase_number.Goals as goal

pub returns-in-Waiting : goal.returns-in-Waiting
returns-in-Waiting c =
    rw c.in-Waiting.is (omega arith)
