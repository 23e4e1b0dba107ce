-- `lines::hex_word` meets its contract. Assumes nothing.
use Rattle.text.proofs.Runs.{word_none, word_some}
use Rattle.lines.proofs.Replies.{hex_missing, hex_not, chosen_missing, chosen_not}
use mathlib.Core.Path.{sym, ◌∙◌}
use Rattle.lines.proofs.hex_word.Goals as goal

pub returns-then-start-end : goal.returns-then-start-end
returns-then-start-end c =
    let none = word_none c.word-word.ensures c.if-start-end.true in (hex_missing _ none, chosen_missing _ none)

pub returns-then-not-is_bytes : goal.returns-then-not-is_bytes
returns-then-not-is_bytes c =
    let w = c.word-word.ensures in
    let some = word_some w c.if-start-end.false in
    let not = rw w.is at (sym c.is_bytes.ensures ∙ c.if-not-is_bytes.true) in
    (hex_not _ some not, chosen_not _ some not)

pub returns : goal.returns
returns c =
    let w = c.word-word.ensures in
    (w, word_some w c.if-start-end.false, rw w.is at (sym c.is_bytes.ensures ∙ c.if-not-is_bytes.false))
