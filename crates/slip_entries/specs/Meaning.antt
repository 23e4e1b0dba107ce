-- What the code's answers on an entry mean in the words of the request. Assumes nothing.
use Rattle.std.specs.Prelude.{ℕ, Option as Maybe, Some, None}
use Rattle.std.proofs.Math.Option.{Option, none, some}
use Rattle.fields.specs.Names.{name_of}
use Rattle.rules.specs.Words as words
use Rattle.wire.specs.Meaning.{statement_of}
use Rattle.wire.specs.declared.Statement.{Statement}
use Rattle.fields.specs.declared.Name.{Name}

abbrev pub entry_of : Maybe Statement → Option words.Statement
entry_of (Some x) = some (statement_of x none)
entry_of None = none

abbrev pub link_of : Maybe Name → Option ℕ
link_of (Some p) = some (name_of p)
link_of None = none
