-- `text::run` meets its contract. The invariant: every byte from the start to i passes. Assumes nothing.
use Rattle.std.proofs.Common.{ℕ, Bool, ◌≡◌, ◌<◌, ◌≤◌, ◌-◌, length, drop}
use Rattle.text.proofs.Runs.{Ran}
use Rattle.text.proofs.run.Given as goal

abbrev pub invariant-loop-i : goal.invariant-loop-i
invariant-loop-i g l =
    (l.from ≤ l.i) × (l.i ≤ length l.s) × ((p : ℕ → Bool) → ((b : ℕ) (r : Bool) → b < 256 → g.F.Fn.post l.passes (b, tt) r → r ≡ p b) → Ran p (drop l.from l.s) (l.i - l.from))
