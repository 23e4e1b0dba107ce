-- What a rule leaves: a station in its next state, and what it said, written into the out buffer from a place on. Assumes nothing.
use Rattle.std.specs.Prelude.{ℕ, List}
use Rattle.rules.specs.Messages.{outgoing}
use Rattle.rules.specs.Inputs as inputs
use Rattle.outgoing.specs.Wrote.{Says}
use Rattle.plain_tables.specs.Meaning.{Gives}
use Rattle.plain_acts.specs.declared.Work.{Work}

pub record Worked (w : inputs.Work) (o : List ℕ) (at : ℕ) (r : Work) (left : List ℕ) : Type 0 where
  pub now : Gives r.engine w.now
  pub says : Says o at (outgoing w.out) left r.at
