-- `slot_replay::replay_slots` meets its contract: what a replay from a slot on will have come to is what one from the first on will. Assumes nothing.
use Prim.Native.Nat.{◌-◌, ◌≤◌}
use mathlib.Core.Path.{◌≡◌}
use lib.ListN.{length}
use Rattle.journal.specs.Journal.{slots_from, slots_of}
use Rattle.slot_replay.specs.Fold.{replay_from}
use Rattle.slot_replay.specs.Meaning.{end_of}
use Rattle.slot_replay.proofs.replay_slots.Given as goal

abbrev pub invariant-loop-place : goal.invariant-loop-place
invariant-loop-place l =
    (l.place ≤ l.count) × (l.records ≤ l.place) × (l.torn ≤ l.place) × (length l.store ≡ length l.initial.store) × (length l.out ≡ length l.initial.out) × (length l.report ≡ length l.initial.report)
    × (end_of l.torn l.report (replay_from l.records l.place l.store l.out (slots_from l.journal l.place (l.count - l.place))) ≡ end_of 0 l.initial.report (replay_from 0 0 l.initial.store l.initial.out (slots_of l.journal)))
