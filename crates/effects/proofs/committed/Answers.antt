-- `committed` meets its contract: the head is put, then the height, then the name. Assumes nothing.
use Rattle.outgoing.proofs.Writing.{length_committed, committed_says}
use native.Mathlib.Omega.{arith}
use Rattle.fields.proofs.Names.{name_lt}
use Rattle.fields.specs.Names.{name_of}
use Rattle.effects.proofs.committed.Goals as goal

pub put-requires : goal.put-requires
put-requires c =
    omega (arith, length_committed c.args.height (name_of c.args.name))

pub put-requires-2 : goal.put-requires-2
put-requires-2 c =
    omega (arith, length_committed c.args.height (name_of c.args.name))

pub put_name-requires : goal.put_name-requires
put_name-requires c =
    omega (arith, length_committed c.args.height (name_of c.args.name))

pub returns : goal.returns
returns c =
    let a = c.args in
    committed_says a.out.now a.at a.height (name_of a.name) (omega arith) (name_lt a.name (omega (arith, c.well_formed)) (omega (arith, c.well_formed)) (omega (arith, c.well_formed)) (omega (arith, c.well_formed)))
    c.put.ensures c.put-2.ensures c.put_name.ensures
