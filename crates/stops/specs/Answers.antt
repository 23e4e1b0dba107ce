-- An outcome as it stands in the two buffers. Assumes nothing.
use Rattle.std.specs.Prelude.{ℕ, ◌≡◌, List}
use Rattle.rules.specs.Messages.{outgoing}
use Rattle.rules.specs.Refusals.{Outcome, result}
use Rattle.outgoing.specs.Wrote.{wrote}
use Rattle.store.specs.Decode.{Left}

-- an outcome: the store holds what is left, its words are written from the start on, and the result is what a host is told
pub record Answers (x : Outcome) (o b' o' : List ℕ) (r : ℕ) : Type 0 where
  pub left : Left b' x.next
  pub out : o' ≡ wrote o 0 (outgoing x.out)
  pub told : r ≡ result x

-- an outcome that says nothing, so that any out buffer is left as it was
abbrev pub Mutely : Outcome → List ℕ → ℕ → Type 0
Mutely x b' r = (o : List ℕ) → Answers x o b' o r
