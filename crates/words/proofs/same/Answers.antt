-- `words::same` meets its contract. Assumes nothing.
use Rattle.words.proofs.Statements.{same_is}
use Rattle.words.proofs.same.Goals as goal

pub returns : goal.returns
returns c =
    let a = c.args in
    rw (c.eq-name.ensures, c.eq-link.ensures) (same_is a.x a.y)
