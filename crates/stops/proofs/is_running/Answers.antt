-- `stops::is_running` meets its contract: by the phase of the header. Assumes nothing.
use Rattle.stops.proofs.Running.{not_running, is_running}
use Rattle.stops.proofs.is_running.Goals.{in-Stopped, in_default}
use Rattle.stops.proofs.is_running.Goals as goal

pub returns : goal.returns
returns c =
    let a = c.args in
    elim c.match-matches.branch [
      | in-Stopped w ↦ rw w.matches-is (not_running a.station a.store.now c.requires.1 _ w.in-Stopped.is)
      | in_default w ↦ rw w.matches-is (is_running a.station a.store.now c.requires.1 w.in_default.not-Stopped)
    ]
