-- `blames::all_good` meets its contract. Assumes nothing.
use Prim.Native.Nat.{◌-◌}
use mathlib.Core.Path.{◌≡◌}
use Rattle.rules.specs.WellFormed.{is_mask, blames_good}
use Rattle.rules.specs.Lists.{all}
use Rattle.settings.specs.Made.{settings_of}
use Rattle.store.specs.Decode.{rows, blame_at, blames}
use Rattle.blames.proofs.all_good.Given as goal

abbrev pub invariant-loop-i : goal.invariant-loop-i
invariant-loop-i l =
    blames_good (settings_of l.settings) (blames l.store) ≡ all (is_mask (settings_of l.settings)) (rows (blame_at l.store) l.i (l.last - l.i))
