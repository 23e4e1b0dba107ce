-- What may be missing: the code's value, and the number that stands for it in a record, 0 for nothing, else one more. Assumes nothing.
use Rattle.std.specs.Prelude.{ℕ, zero, suc, Option as Told, Some, None}
use Rattle.std.proofs.Math.Option.{Option, none, some}
use Rattle.rules.specs.Words.{Opener}

-- the code's value, in the words of the rules
abbrev pub told : Told ℕ → Option ℕ
told None = none
told (Some c) = some c

-- 0 not voted for; else one more than the clock of the vote
abbrev pub vote_of : ℕ → Option ℕ
vote_of zero = none
vote_of (suc c) = some c

abbrev pub vote_number : Option ℕ → ℕ
vote_number none = 0
vote_number (some c) = suc c

-- 0 nobody opened the tally by a vote; else one more than the author who did
abbrev pub opener_of : ℕ → Opener
opener_of k = vote_of k

abbrev pub opener_number : Opener → ℕ
opener_number k = vote_number k

-- 0 the tally had no quorum yet; else one more than the clock at which it first had one
abbrev pub reached_from : ℕ → Option ℕ
reached_from k = vote_of k

abbrev pub reached_number : Option ℕ → ℕ
reached_number r = vote_number r
