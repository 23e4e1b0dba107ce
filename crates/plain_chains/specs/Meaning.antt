-- What names, or none, mean in the words of the rules. Assumes nothing.
use Rattle.std.specs.Prelude.{ℕ, ◌≡◌, List, Some, None, IfSome}
use Rattle.std.specs.Prelude as code
use Rattle.std.proofs.Math.Option.{Option, none, some}
use Rattle.plain_words.specs.Places.{Within}
use Rattle.plain_tables.specs.Meaning.{names, room}
use Rattle.plain_tables.specs.declared.Names.{Names}

-- names, or none
abbrev pub maybe_of : code.Option Names → Option (List ℕ)
maybe_of (Some t) = some (names t)
maybe_of None = none

-- what a rule that gives names, or none, is to give; in the room that names have
pub record Gives (m : code.Option Names) (o : Option (List ℕ)) : Type 0 where
  pub within : IfSome m (λ t. Within room t.items t.count)
  pub is : maybe_of m ≡ o
