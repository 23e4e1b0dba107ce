-- `text::word` meets its contract: the spaces are passed over, then the word. Assumes nothing.
use Rattle.std.proofs.Common.{rules}
use Rattle.text.proofs.Runs.{word_runs}
use Rattle.text.specs.Words.{is_space, in_word}
use Rattle.text.proofs.word.Goals as goal

pub returns : goal.returns
returns c =
    word_runs _ _ _ (c.run-start.ensures.runs is_space (λ b r h e. search rules)) (c.run-end.ensures.runs in_word (λ b r h e. search rules))
