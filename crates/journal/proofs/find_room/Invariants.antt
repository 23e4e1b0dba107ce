-- `journal::find_room` meets its contract: what is looked for from a slot on is what is looked for from the first on. Assumes nothing.
use Prim.Native.Nat.{◌-◌, ◌≤◌}
use mathlib.Core.Path.{◌≡◌}
use Rattle.journal.specs.Journal.{slot_count, slots_from, room_from, room_in}
use Rattle.journal.proofs.find_room.Given as goal

abbrev pub invariant-loop-place : goal.invariant-loop-place
invariant-loop-place l =
    (l.place ≤ l.count) × (l.records ≤ l.place) × (l.count ≡ slot_count l.journal) × (room_from l.records l.place (slots_from l.journal l.place (l.count - l.place)) ≡ room_in l.journal)
