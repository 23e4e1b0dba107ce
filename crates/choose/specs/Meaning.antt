-- What the code's answers mean in the words of the request. Assumes nothing.
use Rattle.std.specs.Prelude.{ℕ, ◌≡◌, Option as Maybe, Some, None}
use Rattle.std.proofs.Math.Option.{Option, none, some}
use Rattle.rules.specs.Words.{Certificate}
use Rattle.choose.specs.declared.Rank as code
use Rattle.choose.specs.declared.Choice.{Choice}
use Rattle.choose.specs.declared.Choice.TheVariants.{First, Second, Neither}

-- the number of each choice: 1 the first's part, 2 the second's, 0 the empty part
abbrev pub number_of : Choice → ℕ
number_of First = 1
number_of Second = 2
number_of Neither = 0

-- a report has the rank of its certificate
pub record Rank (v h : ℕ) (o : Option Certificate) : Type 0 where
  pub certificate : Certificate
  pub is : o ≡ some certificate
  pub view_is : v ≡ certificate.view
  pub height_is : h ≡ certificate.height

abbrev pub Ranks : Maybe code.Rank → Option Certificate → Type 0
Ranks (Some r) o = Rank r.view r.height o
Ranks None o = o ≡ none
