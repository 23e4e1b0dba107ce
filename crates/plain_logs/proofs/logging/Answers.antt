-- `plain_logs::logging` meets its contract: what was gained is said, and the log kept. Assumes nothing.
use Rattle.plain_logs.proofs.Saying.{logging_worked}
use Rattle.plain_logs.proofs.logging.Goals as goal

pub returns : goal.returns
returns c = logging_worked c.args.e c.requires.0 c.args.log c.requires.1 c.with_log-engine.ensures c.reports-next.ensures
