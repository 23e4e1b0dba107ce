-- The vote of an author for a block, as a message. Assumes nothing.
use Rattle.std.specs.Prelude.{ℕ}
use Rattle.rules.specs.Messages.{Message, vote}
use Rattle.rules.specs.Words.{Certificate}

abbrev pub vote_for : Certificate → ℕ → Message
vote_for t a = vote t.view t.height t.name a
