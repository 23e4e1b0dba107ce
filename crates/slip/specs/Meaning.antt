-- What the code's answers mean in the words of the request. Assumes nothing.
use Rattle.std.specs.Prelude.{ℕ, Result, Ok, Err}
use Rattle.slip.specs.Slips.{Verdict, accepted, refused}
use Rattle.slip.specs.declared.Refused.{Refused}

abbrev pub verdict_of : Result ℕ Refused → Verdict
verdict_of (Ok k) = accepted k
verdict_of (Err r) = refused r.place
