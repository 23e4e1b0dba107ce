-- What a pair of statements means in the words of the rules. Assumes nothing.
use Rattle.std.proofs.Math.Option.{Option, none, some}
use Rattle.rules.specs.Words.{Statement}
use Rattle.plain_statements.specs.Meaning.{held_of}
use Rattle.std.specs.Prelude as code
use Rattle.std.specs.Prelude.{Some, None}
use Rattle.plain_statements.specs.declared.Held.{Held}

-- two statements that conflict, if there are
abbrev pub two_of : code.Option (Held × Held) → Option (Statement × Statement)
two_of (Some p) = some (held_of p.0, held_of p.1)
two_of None = none
