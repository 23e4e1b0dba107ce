-- `moves::is_calm` meets its contract: each part of a tick is asked at the next clock. Assumes nothing.
use Rattle.moves.proofs.Calming.{calm_by}
use Rattle.moves.proofs.Turns.{clock_small}
use Rattle.moments.proofs.Moments.{entered_before}
use native.Mathlib.Omega.{arith}
use Rattle.moves.proofs.is_calm.Goals as goal

pub overflow_add-next : goal.overflow_add-next
overflow_add-next c =
    omega (arith, clock_small c.requires.0 c.args.station c.requires.1)

pub overdue_at-requires : goal.overdue_at-requires
overdue_at-requires c =
    let p = c.requires in (p.0, p.1, omega (arith, entered_before p.0 c.args.station p.1), p.2)

pub returns : goal.returns
returns c =
    let args = c.args in let pre = c.requires in let overdue-at = c.overdue_at in
    calm_by pre.0 args.station pre.1 _ c.leads_at.result c.enters_at.result overdue-at.ensures c.if-overdue_at.false c.leads_at.ensures c.enters_at.ensures
