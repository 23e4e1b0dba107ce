-- `plain_turns::running` meets its contract. Assumes nothing.
use Rattle.plain_turns.proofs.Laws.{runs_other, runs_not}
use Rattle.plain_turns.proofs.running.Goals as goal
use Rattle.plain_turns.proofs.running.Goals.{in-Stopped, in_default}

pub returns : goal.returns
returns c =
    elim c.match-matches.branch [
      | in-Stopped w ↦ rw w.matches-is (runs_not c.args.e _ w.in-Stopped.is)
      | in_default w ↦ rw w.matches-is (runs_other c.args.e (λ k q. w.in_default.not-Stopped k q))
    ]
