-- `journal::judge_at` meets its contract: a place's slot lies within the journal. Assumes nothing.
use Prim.Native.Nat.{◌+◌, ◌-◌, ◌*◌}
use native.Mathlib.Omega.{arith}
use Rattle.journal.proofs.Rooms.{part_judged, slot_room}
use Rattle.journal.proofs.judge_at.Goals as goal

pub overflow_mul-at : goal.overflow_mul-at
overflow_mul-at c = omega (arith, slot_room _ _ c.requires)

pub overflow_add-end : goal.overflow_add-end
overflow_add-end c = omega (arith, slot_room _ _ c.requires)

pub slice_bounds-judge-end : goal.slice_bounds-judge-end
slice_bounds-judge-end c = omega (arith, slot_room _ _ c.requires)

pub returns : goal.returns
returns c =
    let p = c.args.place in
    part_judged _ p {m = (p * 128 + 128) - p * 128} c.judge.ensures (omega arith)
