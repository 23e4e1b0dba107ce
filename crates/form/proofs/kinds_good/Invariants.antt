-- `form::kinds_good` meets its contract. Assumes nothing.
use Prim.Native.Nat.{◌≤◌, ◌-◌}
use mathlib.Core.Path.{◌≡◌}
use Rattle.rules.specs.Lists.{all, within}
use Rattle.store.specs.Decode.{rows, kind_at, kinds}
use Rattle.form.proofs.kinds_good.Given as goal

abbrev pub invariant-loop-i : goal.invariant-loop-i
invariant-loop-i l =
    (l.i ≤ l.count) × (all (within 1 2) (kinds l.store) ≡ all (within 1 2) (rows (kind_at l.store) l.i (l.count - l.i)))
