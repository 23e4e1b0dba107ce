-- The name that a word says, as the code answers it. Assumes nothing.
use Rattle.std.specs.Prelude.{ℕ, Some, None, Option as Answer}
use Rattle.std.proofs.Math.Option.{Option, none, some}
use Rattle.fields.specs.declared.Name.{Name}
use Rattle.fields.specs.Names.{name_of}

abbrev pub named_of : Answer Name → Option ℕ
named_of (Some n) = some (name_of n)
named_of None = none
