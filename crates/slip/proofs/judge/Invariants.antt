-- `slip::judge` meets its contract. The invariant: what is judged from this place on is what is judged. Assumes nothing.
use Prim.Native.Nat.{◌≤◌}
use mathlib.Core.Path.{◌≡◌}
use lib.ListN.{length}
use Rattle.fields.specs.Names.{name_of}
use Rattle.settings.specs.Made.{settings_of}
use Rattle.slip.specs.Slips.{entry_place, judge_from, judged}
use Rattle.slip.proofs.judge.Given as goal

abbrev pub invariant-loop-below : goal.invariant-loop-below
invariant-loop-below l =
    (l.at ≡ entry_place l.place) × (l.at ≤ length l.slip) × (judge_from (settings_of l.settings) l.slip l.below (name_of l.name) l.place ≡ judged (settings_of l.settings) l.slip)
