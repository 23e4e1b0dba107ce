-- `parts::ending` meets its contract. Assumes nothing.
use Rattle.parts.proofs.Fields.{ends_none, ends_extra}
use Rattle.text.proofs.Runs.{word_none, word_some}
use native.Mathlib.Omega.{arith}
use Rattle.parts.proofs.ending.Goals as goal

pub returns-then-word : goal.returns-then-word
returns-then-word c =
    ends_extra _ (word_some c.word-word.ensures (λ e. omega (arith, e, c.if-word.true)))

pub returns : goal.returns
returns c =
    ends_none _ (word_none c.word-word.ensures (omega (arith, c.word-word.ensures.low, c.if-word.false)))
