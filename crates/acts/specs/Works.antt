-- What an act leaves: the store of a rule's next state, and its words written into the out buffer from a place on. Assumes nothing.
use Rattle.std.specs.Prelude.{ℕ, ◌≡◌, true, List}
use Rattle.rules.specs.Messages.{outgoing}
use Rattle.rules.specs.Inputs.{Work}
use Rattle.rules.specs.WellFormed.{well_formed}
use Rattle.outgoing.specs.Wrote.{Says}
use Rattle.store.specs.Decode.{state_of, Form, Left}

-- a store that has the form and holds a well-formed state
pub record Formed (b : List ℕ) : Type 0 where
  pub form : Form b
  pub good : well_formed (state_of b) ≡ true

-- the work is done: what the store holds now, and what was said
pub record Works (w : Work) (o : List ℕ) (at : ℕ) (b' : List ℕ) (o' : List ℕ) (end : ℕ) : Type 0 where
  pub left : Left b' w.now
  pub says : Says o at (outgoing w.out) o' end
