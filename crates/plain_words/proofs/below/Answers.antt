-- `plain_words::below` meets its contract. Assumes nothing.
use Rattle.std.proofs.Common.{rules}
use Rattle.std.specs.Cmp.Rules.{comparing}
use Rattle.plain_words.specs.Meaning.{certificate_of}
use Rattle.rules.specs.Words.{below}
use Rattle.plain_words.proofs.below.Goals as goal

pub returns : goal.returns
unfolding below certificate_of
returns c =
    rw c.lt.ensures (search (rules, comparing))
