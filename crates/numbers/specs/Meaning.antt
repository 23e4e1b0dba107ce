-- The number that a word says, as the code answers it. Assumes nothing.
use Rattle.std.specs.Prelude.{ℕ, Some, None, Option as Answer}
use Rattle.std.proofs.Math.Option.{Option, none, some}

abbrev pub number_of : Answer ℕ → Option ℕ
number_of (Some v) = some v
number_of None = none
