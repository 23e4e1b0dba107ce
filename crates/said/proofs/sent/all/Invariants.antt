-- `said::sent::all` ends: each field takes at least one byte. Assumes nothing.
use Rattle.std.proofs.Common.{length, ◌-◌}
use Rattle.said.proofs.sent.all.Given as goal

abbrev pub decreases-loop-place : goal.decreases-loop-place
decreases-loop-place g l = length l.out - l.place
