-- `search::uses_at` meets its contract. Assumes nothing.
use Rattle.fields.specs.Names.{name_of}
use Rattle.store.specs.Decode.{statement_at}
use Rattle.search.proofs.Statements.{read_uses}
use Rattle.search.proofs.uses_at.Goals as goal

pub returns : goal.returns
returns c =
    let a = c.args in
    rw (c.eq-own.ensures, c.eq-parent.ensures) (read_uses c.statement_at-x.result (statement_at a.store.now a.i) c.statement_at-x.ensures (name_of a.name))
