-- `plain_ticks::halted` meets its contract. Assumes nothing.
use mathlib.Core.Path.{ap, ◌∙◌}
use Rattle.plain_tables.specs.declared.Engine.{Engine}
use Rattle.plain_turns.specs.declared.Turn.{Turn}
use Rattle.plain_ticks.proofs.halted.Goals as goal

pub returns : goal.returns
returns c = let n = c.args.number in c.refused.ensures ∙ ap {B = Turn} (λ (e : Engine). record { number = n; count = 0; engine = e }) c.with_phase.ensures
