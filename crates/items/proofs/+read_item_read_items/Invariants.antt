-- `items::read_item` and `items::read_items`, which call each other, meet their contracts. The measures are twice the length of
-- what is left, and one more for a list of items. The loop's invariant: the messages so far and those left are all. Assumes nothing.
use Rattle.std.proofs.Common.{length, ◌-◌, suc, ◌≡◌, ◌+◌, ◌*◌, ◌≤◌, drop}
use Rattle.items.specs.Reading.{inside}
use Rattle.items.specs.Meaning.{count_of}
use Rattle.items.proofs.Reading.{more}
use Rattle.items.proofs.+read_item_read_items.Given as goal

abbrev pub decreases-read_item : goal.decreases-read_item
decreases-read_item l = 2 * length l.s.now

abbrev pub decreases-read_items : goal.decreases-read_items
decreases-read_items l = 2 * length l.s.now + 1

abbrev pub invariant-read_items-loop-at : goal.invariant-read_items-loop-at
invariant-read_items-loop-at l =
    (l.at ≤ length l.s) × (l.messages ≤ l.at) × (more l.messages (count_of (inside (suc l.depth) (drop l.at l.s))) ≡ count_of (inside (suc l.depth) l.s))

abbrev pub decreases-read_items-loop-at : goal.decreases-read_items-loop-at
decreases-read_items-loop-at l = length l.s - l.at
