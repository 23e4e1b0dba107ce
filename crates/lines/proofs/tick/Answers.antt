-- `lines::tick` meets its contract. Assumes nothing.
use Rattle.text.proofs.Runs.{word_none, word_some}
use Rattle.parts.proofs.Fields.{before}
use Rattle.lines.proofs.Replies.{nothing_refused, nothing_tick, tick_one, tick_good, tick_wrong}
use Rattle.lines.proofs.tick.Goals as goal

pub returns-then-word : goal.returns-then-word
returns-then-word c = nothing_tick _ _ (tick_one _ (word_none c.word-word.ensures c.if-word.true))

pub returns-in_err-count : goal.returns-in_err-count
returns-in_err-count c =
    nothing_refused _ c.from_residual.ensures (tick_wrong c.args.line.now c.args.at (word_some c.word-word.ensures c.if-word.false) _ (c.in_err-count.ensures _))

pub returns-in_err-ending : goal.returns-in_err-ending
returns-in_err-ending c =
    nothing_refused _ c.from_residual-in_err-ending.ensures
    (tick_wrong c.args.line.now c.args.at (word_some c.word-word.ensures c.if-word.false) _ (before c.in_ok-count.ensures _ _ c.in_err-ending.ensures))

pub returns : goal.returns
returns c =
    nothing_tick _ _ (tick_good c.args.line.now c.args.at (word_some c.word-word.ensures c.if-word.false) c.in_ok-count.ensures c.in_ok-ending.ensures)
