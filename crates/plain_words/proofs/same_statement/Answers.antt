-- `plain_words::same_statement` meets its contract. Assumes nothing.
use Rattle.plain_words.proofs.Statements.{same_is}
use Rattle.plain_words.proofs.same_statement.Goals as goal

pub returns : goal.returns
returns c =
    let a = c.args in
    rw (c.eq.ensures, c.eq-2.ensures) (same_is a.x a.y)
