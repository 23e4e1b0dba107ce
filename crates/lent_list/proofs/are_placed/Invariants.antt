-- `lent_list::are_placed` meets its contract. Assumes nothing.
use Prim.Native.Nat.{◌-◌, ◌≤◌}
use mathlib.Core.Path.{◌≡◌}
use Rattle.journal.specs.Journal.{slots_from, slots_of}
use Rattle.lent_list.specs.Lists.{records_in, slots_in, are_placed}
use Rattle.lent_list.proofs.are_placed.Given as goal

abbrev pub invariant-loop-place : goal.invariant-loop-place
invariant-loop-place l =
    (l.place ≤ l.count) × (l.count ≡ slots_in l.list) × (are_placed l.records l.place (slots_from (records_in l.list) l.place (l.count - l.place)) ≡ are_placed l.records 0 (slots_of (records_in l.list)))
