-- `plain_entries::entered` meets its contract. Assumes nothing.
use Rattle.plain_entries.proofs.Laws.{entered_worked}
use Rattle.plain_entries.proofs.entered.Goals as goal

pub returns : goal.returns
returns c =
    let next-lock = c.next_lock-lock in let report = c.report-next in
    entered_worked c.args.e c.requires.0 next-lock.result next-lock.ensures c.entering-engine.ensures report.ensures
