-- `append_statement` meets its contract: a record is put behind the last, and counted. Assumes nothing.
use Rattle.records.proofs.Changes.{add_statement}
use Rattle.records.proofs.Sized.{statement_fits}
use Rattle.wire.specs.Meaning.{statement_of}
use Rattle.fields.proofs.Names.{name_lt}
use mathlib.Core.Option.{none}
use Rattle.store.proofs.Forms.{form_long}
use native.Mathlib.Omega.{arith}
use Rattle.records.proofs.append_statement.Goals as goal

pub get_count-count-requires : goal.get_count-count-requires
get_count-count-requires c =
    omega (arith, form_long _ c.requires.0)

pub put_statement-requires : goal.put_statement-requires
put_statement-requires c =
    omega (arith, form_long _ c.requires.0, c.requires.1)

pub put-requires : goal.put-requires
put-requires c =
    omega (arith, form_long _ c.requires.0)

pub returns : goal.returns
returns c =
    let a = c.args in
    let g = c.well_formed.1.0.1.1 in
    let n = g.1.1.1.0.1.1 in
    let l = g.1.1.1.1.0.1.1 in
    let name = name_lt a.statement.name n.0.1 n.1.0.1 n.1.1.0.1 n.1.1.1.0.1 in
    let link = name_lt a.statement.link l.0.1 l.1.0.1 l.1.1.0.1 l.1.1.1.0.1 in
    rw (c.put.ensures, c.put_statement.ensures, c.get_count-count.ensures.0)
    (add_statement a.store.now c.requires.0 (statement_of a.statement none) c.requires.1
    (statement_fits a.statement g.1.0.1 g.1.1.0.1 name link g.1.1.1.1.1.0.1 g.1.1.1.1.1.1.0.1))
