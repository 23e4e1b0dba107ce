-- `clauses::leads` meets its contract: by the test of no stations. Assumes nothing.
use lib.Dec.{eqb}
use mathlib.Core.Path.{ap}
use Rattle.settings.specs.Made.{settings_of}
use Rattle.clauses.proofs.Tests.{leader_none}
use Rattle.clauses.proofs.leads.Goals as goal

pub returns-then-settings-eq0 : goal.returns-then-settings-eq0
returns-then-settings-eq0 c =
    leader_none (settings_of c.args.settings) c.args.view c.args.author c.if-settings-eq0.true

pub returns : goal.returns
returns c =
    ap (eqb c.args.author) c.leader.ensures
