-- `parts::field` meets its contract. Assumes nothing.
use Rattle.parts.proofs.Fields.{field_missing, field_not, field_is, gives}
use Rattle.parts.proofs.field.Goals as goal

pub returns-then-start-next : goal.returns-then-start-next
returns-then-start-next c =
    field_missing _ _ _ _ c.word_of-word.ensures c.if-start-next.true

pub returns-in_err-value : goal.returns-in_err-value
returns-in_err-value c =
    rw (gives _ _ c.from_residual.ensures)
    (field_not _ _ _ _ c.word_of-word.ensures c.if-start-next.false _ (rw c.sort_of.ensures at c.in_err-value.ensures))

pub returns : goal.returns
returns c =
    field_is _ _ _ _ c.word_of-word.ensures c.if-start-next.false _ (rw c.sort_of.ensures at c.in_ok-value.ensures)
